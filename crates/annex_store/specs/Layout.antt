-- Where the contents of keys stand in a repository, and the logs of who has them.
use Rattle.std.specs.Prelude.{ℕ, List, [], ◌∷◌, ◌++◌, codes}
use Rattle.places.specs.All.{Names, pieces}
use Rattle.annex_keys.specs.All.{PlainKey, hash_dir, key_text}

-- The name of a key's log: the key's text and `.log`.
abbrev pub log_name : PlainKey → List ℕ
log_name key = key_text key ++ codes ".log"

-- `annex/objects/aaa/bbb/KEY`
abbrev pub content_names : PlainKey → Names
content_names key =
    codes "annex" ∷ codes "objects" ∷ (pieces (hash_dir key) ++ key_text key ∷ [])

-- `annex/logs/aaa/bbb/KEY.log`
abbrev pub log_names : PlainKey → Names
log_names key = codes "annex" ∷ codes "logs" ∷ (pieces (hash_dir key) ++ log_name key ∷ [])

-- Where the content of a key stands.
abbrev pub content_place : Names → PlainKey → Names
content_place repo key = repo ++ content_names key

-- Where the log of a key stands.
abbrev pub log_place : Names → PlainKey → Names
log_place repo key = repo ++ log_names key
