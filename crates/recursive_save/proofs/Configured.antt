-- The place of a configuration, and its refusals.
use Rattle.std.proofs.Common.{◌≡◌, ◌≤◌, Bool, [], ◌∷◌, length, codes, None, Err, refl, sym, ap, ◌∙◌, append_assoc, length-append, arith}
use Rattle.places.specs.All.{Names, slash, slashed, text_of, joined}
use Rattle.places.proofs.Cuts.{base_le, below_text}
use Rattle.faults.specs.declared.faults.Trouble.{Trouble}
use Rattle.faults.specs.declared.faults.Trouble.TheVariants.{Refused, Device, NoMemory}
use Rattle.file_store.specs.All.{Drive}
use Rattle.repository.specs.All.{dlrepo, repo_of, settings_place, object_limit}
use Rattle.acts.proofs.Reading.{read_refuses, read_starves}
use Rattle.ref_store.specs.All.{IsPlaced, long_place}
use Rattle.ref_store.proofs.Fitting.{short_is}
use Rattle.ref_store.proofs.Tips.{long_over}
use Rattle.recursive_save.specs.Configured.{ConfigReads, MayConfigure}

pub settings_text : (root : Names) → joined root (codes ".dlrepo/config") ≡ text_of (settings_place root)
settings_text root = below_text root (codes ".dlrepo/config") ∙ ap text_of (sym (append_assoc root (dlrepo ∷ []) (codes "config" ∷ [])))

-- where objects have places, a configuration has one
settings_short : (root : Names) → length (text_of (repo_of root)) ≤ object_limit → long_place (settings_place root) ≡ None
settings_short root fits =
    short_is (settings_place root) (omega (arith, base_le (repo_of root), ap length (below_text (repo_of root) (codes "config")), length-append (slashed (repo_of root)) (slash ∷ codes "config")))

pub unplaced : (tells : Bool) (root : Names) (d : Drive) (e : Trouble) → IsPlaced (settings_place root) (Err e) → ConfigReads tells root d d (Err e)
unplaced tells root d (Refused fault) is =
    read_refuses (long_over (settings_place root) fault (MayConfigure root) (λ path size over. over.0) is) (omega arith)
    (λ t. (refl, λ fits. absurd (cc (settings_short root fits, is))))
unplaced tells root d Device is = absurd is
unplaced tells root d NoMemory is = read_starves (omega arith) (λ t. refl)
