use Rattle.std.proofs.Common.{◌≡◌, ◌++◌, ◌∷◌, ◌∙◌, [], List, ℕ, refl, ap, subst}
use Rattle.git_objects.specs.All.{Fields, IsCommitText, commit_text}
use Rattle.git_objects.specs.declared.ids.Id.{Id}
use Rattle.config_text.specs.All.{plain_config}
use Rattle.recursive_save.specs.Saving.{save_commit}
use Rattle.recursive_save.proofs.FirstFacts.{nothing_is_extra}
use Rattle.recursive_save.proofs.planning.commit_body.Goals as goal

pub invariant_of-commit : goal.invariant_of-commit
invariant_of-commit c = record { valid = rw (c.new-2.ensures ∙ c.new.ensures.items) nothing_is_extra }

pub returns-in-Ok-clause-fields : goal.returns-in-Ok-clause-fields
returns-in-Ok-clause-fields c =
    let parents = c.in_ok-push.ensures.items ∙ ap (λ (z : List Id). z ++ c.args.parent ∷ []) c.new-parents.ensures.items in
    let extra = c.new-2.ensures ∙ c.new.ensures.items in
    let message = c.new-3.ensures ∙ c.in_ok-from_slice.ensures.items ∙ c.as_slice.ensures in
    let fields : Fields = record {
      tree = c.args.tree;
      parents = c.push.new.self.items;
      author = c.in_ok-person.field-0;
      committer = c.in_ok-person-2.field-0;
      extra = c.new-2.result;
      message = c.new-3.result;
    } in
    let printed : c.in-Ok.body.items ≡ save_commit (plain_config c.args.config.now) c.args.wish.now c.args.tree.0 c.args.parent.0 =
    c.in-Ok.ensures.text ∙ (λ i. commit_text c.args.tree.0 (parents i) (c.in_ok-person.ensures i) (c.in_ok-person-2.ensures i) (extra i) (message i)) in
    record {
      fields = fields;
      text = subst (λ (z : List ℕ). IsCommitText z fields) printed c.in-Ok.ensures;
      tree_is = refl;
      parent_is = parents;
    }
