-- What a head is once a file of it has another text.
use Rattle.std.proofs.Common.{◌≡◌, inl, inr, ℕ, true, List, cond, Option, Some, None, refl, ap, ◌∙◌}
use Rattle.git_objects.specs.All.{IsId}
use Rattle.repository.specs.All.{Head, id_text, ref_text, is_branch, branch_in, tip_in, on_branch}
use Rattle.repository.specs.All.{detached_or, head_in}
use Rattle.repository.proofs.Heading.{IsOnBranch, how_read, reads_detached, reads_on_branch}
use Rattle.repository.proofs.HeadTexts.{id_in-text, branch_in-ref, branch_in-only, id_in-ref}

-- a HEAD that names an id leads there
pub now_detached : (files : List ℕ → Option (List ℕ)) (id : List ℕ) → IsId id → head_in files (Some (id_text id)) ≡ Some (record { branch = None; id = id })
now_detached files id is =
    reads_detached files (Some (id_text id)) (record { branch = None; id = id }) (record { text = id_text id; stands = refl; names = id_in-text id is; branch = refl })

-- a HEAD that names a branch leads where its file does
pub now_named : (files : List ℕ → Option (List ℕ)) (name id : List ℕ) → is_branch name ≡ true → IsId id → files name ≡ Some (id_text id) → head_in files (Some (ref_text name)) ≡ Some (record { branch = Some name; id = id })
now_named files name id valid is there = reads_on_branch files (Some (ref_text name)) (record { branch = Some name; id = id }) (record {
  text = ref_text name;
  stands = refl;
  no_id = id_in-ref name;
  name = name;
  named = branch_in-ref name ∙ (λ i. cond (valid i) (Some name) None);
  branch = refl;
  tip = id_text id;
  there = there;
  leads = id_in-text id is;
})

-- a head on a branch leads where its file does then
pub now_on_branch : (files after : List ℕ → Option (List ℕ)) (file : Option (List ℕ)) (head : Head) (on : IsOnBranch files file head) (id : List ℕ) → after on.name ≡ Some (id_text id) → IsId id
    → head_in after file ≡ Some (record { branch = Some on.name; id = id })
now_on_branch files after file head on id new is = reads_on_branch after file (record { branch = Some on.name; id = id }) (record {
  text = on.text;
  stands = on.stands;
  no_id = on.no_id;
  name = on.name;
  named = on.named;
  branch = refl;
  tip = id_text id;
  there = new;
  leads = id_in-text id is;
})

-- a head leads on where its own branch is as it was
pub same_head : (files after : List ℕ → Option (List ℕ)) (file : Option (List ℕ)) (head : Head) → head_in files file ≡ Some head → ((name : List ℕ) → head.branch ≡ Some name → after name ≡ files name) → head_in after file ≡ Some head
same_head files after file head leads same = elim (how_read files file head leads) [
  | inl is ↦ reads_detached after file head is
  | inr on ↦ reads_on_branch after file head (record {
    text = on.text;
    stands = on.stands;
    no_id = on.no_id;
    name = on.name;
    named = on.named;
    branch = on.branch;
    tip = on.tip;
    there = same on.name on.branch ∙ on.there;
    leads = on.leads;
  })
]

-- only the files of branches count
pub head_in-as : (files after : List ℕ → Option (List ℕ)) → ((name : List ℕ) → is_branch name ≡ true → after name ≡ files name) → (file : Option (List ℕ)) → head_in after file ≡ head_in files file
head_in-as files after same None = refl
head_in-as files after same (Some text) = ap (detached_or (tip_in None (Some text))) (on (branch_in text) refl)
  where
    on : (b : Option (List ℕ)) → branch_in text ≡ b → on_branch after b ≡ on_branch files b
    on None is = refl
    on (Some name) is = ap (tip_in (Some name)) (same name (branch_in-only text name is).1)
