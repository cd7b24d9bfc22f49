-- Which commands and options are built.
use Rattle.std.specs.Prelude.{Bool, true, false, not, ◌&&◌, length, nat_eq, is_none}
use Rattle.dl_words.specs.declared.words.Words.{Words}
use Rattle.dl_words.specs.declared.words.Words.TheVariants as words

-- The table of what is built: `create` without `-d`; `save` without `-r`, with no path; `status`
-- without `-r`; `log`; help and the version. Nothing else is.
abbrev pub is_built : Words → Bool
is_built (words.Create dataset path) = is_none dataset
is_built (words.Save dataset message message_file recursive to_git paths) =
    not recursive && nat_eq (length paths) 0
is_built (words.Status dataset recursive) = not recursive
is_built (words.Log dataset revision) = true
is_built words.Help = true
is_built words.Version = true
is_built other = false
