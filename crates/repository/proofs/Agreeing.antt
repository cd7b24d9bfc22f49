-- Grounds that differ in unfinished writes alone agree.
use Rattle.std.proofs.Common.{◌≡◌, sym, ◌∙◌}
use Rattle.places.specs.All.{Names, Ground, file_at}
use Rattle.repository.specs.Layout.{object_place, repo_of}
use Rattle.repository.specs.Unfinished.{IsOutside}
use Rattle.repository.specs.Agree.{Agree}
use Rattle.repository.proofs.Unfinished.{firm_outside, object_firm}

-- grounds that are the same outside the unfinished writes of a repository
pub Agree-outside : (root : Names) (a b : Ground) → ((q : Names) → IsOutside (repo_of root) q → file_at a q ≡ file_at b q) → Agree a b
Agree-outside root a b same = record {
  places = λ q other firm. same q (firm_outside root q firm);
  held = λ other id kind body clear.
      let place = object_place (repo_of other) id in
      let is = same place (firm_outside root place (object_firm other id clear)) in (
        λ held. record { stands = sym is ∙ held.stands; named = held.named },
        λ held. record { stands = is ∙ held.stands; named = held.named },
      );
}
