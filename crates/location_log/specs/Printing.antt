-- The text that is printed of a log.
use Rattle.std.specs.Prelude.{ℕ, ◌-◌, ◌==◌, if◌then◌else◌, List, [], ◌∷◌, ◌++◌, codes, decimal}
use Rattle.std.specs.Prelude.{length, replicate}
use Rattle.std.specs.List.{flat_map}
use Rattle.config_text.specs.All.{uuid_text}
use Rattle.location_log.specs.Plain.{PlainLine}
use Rattle.location_log.specs.Texts.{status_text}

-- Nine digits, with zeros in front.
abbrev pub nine_digits : ℕ → List ℕ
nine_digits nanos = replicate (9 - length (decimal nanos)) 48 ++ decimal nanos

-- Whole seconds, and a point and nine digits where there are nanoseconds.
abbrev pub time_text : ℕ → ℕ → List ℕ
time_text secs nanos =
    decimal secs ++ (if nanos == 0 then [] else 46 ∷ nine_digits nanos)

-- TIMEs STATUS UUID
abbrev pub line_text : PlainLine → List ℕ
line_text line =
    time_text line.secs line.nanos
    ++ (codes "s " ++ (status_text line.claim ++ (codes " " ++ uuid_text line.uuid)))

-- Each line with its newline.
abbrev pub log_text : List PlainLine → List ℕ
log_text lines = flat_map (λ line. line_text line ++ 10 ∷ []) lines
