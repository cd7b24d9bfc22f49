use Rattle.std.proofs.Common.{◌≡◌, ◌++◌, ◌∷◌, [], ◌∙◌, List, ℕ, length, map, arith, subst, sym, ap, rules}
use Rattle.std.specs.List.{All}
use Rattle.std.proofs.lemmas.Grind.{common_steps}
use Rattle.std.proofs.lemmas.List.Elements.{All-push}
use Rattle.git_objects.specs.All.{IsId}
use Rattle.git_objects.specs.declared.ids.Id.{Id}
use Rattle.object_store.proofs.searching.as_list.Goals as goal

pub loop-id-preserved : goal.loop-id-preserved
loop-id-preserved c =
    let pushed : c.push.new.self.items ≡ c.loop-id.list.items ++ c.id_of.result ∷ [] = c.in_ok-push.ensures.items in
    record {
      whole = grind (arith, common_steps);
      own = subst (λ (l : List Id). All (λ (id : Id). IsId id.0) l) (sym pushed) (All-push (λ (id : Id). IsId id.0) c.loop-id.list.items c.id_of.result c.loop-id.invariant.own c.id_of.ensures.own);
    }
