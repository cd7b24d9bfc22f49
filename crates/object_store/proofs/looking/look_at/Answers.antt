use Rattle.std.proofs.Common.{◌≡◌, ◌∙◌, ◌++◌, ◌∷◌, [], ℕ, List, Option, Some, Vec, sym, ap, subst}
use Rattle.std.specs.Prelude.{option_map}
use Rattle.std.specs.declared.alloc.Global.{Global}
use Rattle.places.specs.All.{Names, file_at}
use Rattle.file_store.specs.All.{present}
use Rattle.file_store.specs.declared.replacing.Replacement.{Replacement}
use Rattle.repository.specs.All.{object_place}
use Rattle.object_store.specs.Objects.{place_in}
use Rattle.object_store.specs.Looks.{HaveIds}
use Rattle.object_store.specs.Puts.{found_fault, fault_in}
use Rattle.object_store.proofs.Ids.{ids_more}
use Rattle.acts.proofs.Reading.{read_refuses}
use Rattle.object_store.proofs.Looks.{found_is}
use Rattle.object_store.proofs.looking.look_at.Goals as goal

pub returns-in-Some-clause-reads : goal.returns-in-Some-clause-reads
returns-in-Some-clause-reads g c =
    let repo = c.args.repo.now in
    let object = c.args.object.now in
    let at : c.in_ok-place.place ≡ place_in repo object = c.in_ok-place.ensures ∙ ap (object_place repo) c.id-id.ensures in
    let is : found_fault repo object c.in-Some.found.items ≡ Some c.in-Some-2.fault =
    ap (found_fault repo object) (sym c.as_slice.ensures.value) ∙ sym (c.in_ok-refusal-in-Some.ensures repo at) ∙ c.in-Some-2.is in
    let found : option_map (λ (v : Vec ℕ Global). v.items) c.in_ok-found.field-0 ≡ Some c.in-Some.found.items = ap (λ (o : Option (Vec ℕ Global)). option_map (λ (v : Vec ℕ Global). v.items) o) c.in-Some.is in
    read_refuses (found_is repo object c.in-Some.found.items c.in-Some-2.fault is) c.in_ok-found.ensures.later (λ t. (
      (c.in_ok-found.ensures.ends t).0,
      ap (λ (file : Option (List ℕ)). fault_in repo object file) (ap (λ (p : Names). file_at (present (g.F.Files.drive c.args.files.now)) p) (sym at) ∙ sym (c.in_ok-found.ensures.ends t).1 ∙ found) ∙ is,
    ))

pub returns-clause-known : goal.returns-clause-known
returns-clause-known g c =
    let repo = c.args.repo.now in
    let at : c.in_ok-place.place ≡ place_in repo c.args.object.now = c.in_ok-place.ensures ∙ ap (object_place repo) c.id-id.ensures in
    let file : Replacement = record { tmp = c.in_ok-tmp-in-None.tmp; place = c.in_ok-place.place; bytes = c.new-bytes.result } in
    let pushed : c.push.new.self.items ≡ c.args.list.now.items ++ file ∷ [] = c.in_ok-push-in-None.ensures.items in
    subst (λ (items : List Replacement). HaveIds repo items c.insert.new.self) (sym pushed)
    (ids_more repo c.args.list.now.items c.args.ids.now c.insert.new.self c.requires.known c.args.object.now file c.id-id.result.0 c.id-id.ensures at c.in_ok-insert-in-None.ensures.updates)
