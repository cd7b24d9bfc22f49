-- How a head is read: where it is detached, and where it is on a branch.
use Rattle.std.proofs.Common.{◌≡◌, ◌⊎◌, inl, inr, ℕ, true, false, List, [], ◌∷◌, Option, Some, None, refl, sym, ap, ◌∙◌, append_assoc}
use Rattle.std.specs.Prelude.{option_map, codes}
use Rattle.places.specs.All.{Names, pieces, has_name}
use Rattle.repository.specs.Heads.{Head, id_in, is_branch, branch_in, tip_in, on_branch}
use Rattle.repository.specs.Heads.{detached_or, head_in}
use Rattle.repository.specs.Layout.{dlrepo, repo_of, branch_place}
use Rattle.repository.specs.Unfinished.{is_tmp}
use Rattle.repository.proofs.BranchNames.{branch_firm}
use Rattle.repository.proofs.Unfinished.{tmp_below_root}

-- HEAD's file names the head's commit itself
pub record IsDetached (file : Option (List ℕ)) (head : Head) : Type 0 where
  pub text : List ℕ
  pub stands : file ≡ Some text
  pub names : id_in text ≡ Some head.id
  pub branch : head.branch ≡ None

-- HEAD's file names a branch, whose file names the head's commit
pub record IsOnBranch (files : List ℕ → Option (List ℕ)) (file : Option (List ℕ)) (head : Head) : Type 0 where
  pub text : List ℕ
  pub stands : file ≡ Some text
  pub no_id : id_in text ≡ None
  pub name : List ℕ
  pub named : branch_in text ≡ Some name
  pub branch : head.branch ≡ Some name
  pub tip : List ℕ
  pub there : files name ≡ Some tip
  pub leads : id_in tip ≡ Some head.id

-- the commit that a tip's file names
record IsTip (branch file : Option (List ℕ)) (head : Head) : Type 0 where
  tip : List ℕ
  there : file ≡ Some tip
  leads : id_in tip ≡ Some head.id
  same : head.branch ≡ branch

tip_some : (branch file : Option (List ℕ)) (head : Head) → tip_in branch file ≡ Some head → IsTip branch file head
tip_some branch None head e = absurd (cc e)
tip_some branch (Some text) head e = by (id_in text) refl e
  where
    by : (o : Option (List ℕ)) → id_in text ≡ o → option_map (λ (id : List ℕ). record { branch = branch; id = id }) o ≡ Some head → IsTip branch (Some text) head
    by None is k = absurd (cc k)
    by (Some id) is k =
        let same : record { branch = branch; id = id } ≡ head = cc k in
        record { tip = text; there = refl; leads = is ∙ ap (λ (h : Head). Some h.id) same; same = sym (ap (λ (h : Head). h.branch) same) }

pub how_read : (files : List ℕ → Option (List ℕ)) (file : Option (List ℕ)) (head : Head) → head_in files file ≡ Some head → IsDetached file head ⊎ IsOnBranch files file head
how_read files None head e = absurd (cc e)
how_read files (Some text) head e = by (id_in text) refl e
  where
    on : (b : Option (List ℕ)) → id_in text ≡ None → branch_in text ≡ b → on_branch files b ≡ Some head → IsDetached (Some text) head ⊎ IsOnBranch files (Some text) head
    on None no_id named k = absurd (cc k)
    on (Some name) no_id named k =
        let tip = tip_some (Some name) (files name) head k in
        inr (record { text = text; stands = refl; no_id = no_id; name = name; named = named; branch = tip.same; tip = tip.tip; there = tip.there; leads = tip.leads })

    by : (o : Option (List ℕ)) → id_in text ≡ o → detached_or (option_map (λ (id : List ℕ). record { branch = None; id = id }) o) (on_branch files (branch_in text)) ≡ Some head
        → IsDetached (Some text) head ⊎ IsOnBranch files (Some text) head
    by (Some id) is k =
        let same : record { branch = None; id = id } ≡ head = cc k in
        inl (record { text = text; stands = refl; names = is ∙ ap (λ (h : Head). Some h.id) same; branch = sym (ap (λ (h : Head). h.branch) same) })
    by None is k = on (branch_in text) is refl k

tip_reads : (branch : Option (List ℕ)) (text : List ℕ) (head : Head) → head.branch ≡ branch → id_in text ≡ Some head.id → tip_in branch (Some text) ≡ Some head
tip_reads branch text head same leads =
    ap (λ (o : Option (List ℕ)). option_map (λ (id : List ℕ). record { branch = branch; id = id }) o) leads
    ∙ ap (λ (b : Option (List ℕ)). Some (record { branch = b; id = head.id })) (sym same)

pub reads_detached : (files : List ℕ → Option (List ℕ)) (file : Option (List ℕ)) (head : Head) → IsDetached file head → head_in files file ≡ Some head
reads_detached files file head is =
    ap (head_in files) is.stands
    ∙ ap (λ (o : Option Head). detached_or o (on_branch files (branch_in is.text))) (tip_reads None is.text head is.branch is.names)

pub reads_on_branch : (files : List ℕ → Option (List ℕ)) (file : Option (List ℕ)) (head : Head) → IsOnBranch files file head → head_in files file ≡ Some head
reads_on_branch files file head is =
    ap (head_in files) is.stands
    ∙ ap (λ (o : Option (List ℕ)). detached_or (option_map (λ (id : List ℕ). record { branch = None; id = id }) o) (on_branch files (branch_in is.text))) is.no_id
    ∙ ap (on_branch files) is.named
    ∙ ap (tip_in (Some is.name)) is.there
    ∙ tip_reads (Some is.name) is.tip head is.branch is.leads

-- ---- a branch's file is no unfinished write

pub branch_place_firm : (root : Names) (name : List ℕ) → has_name dlrepo root ≡ false → is_branch name ≡ true → is_tmp (branch_place (repo_of root) name) ≡ false
branch_place_firm root name clear named =
    ap is_tmp (append_assoc root (dlrepo ∷ []) (codes "refs" ∷ codes "heads" ∷ pieces name))
    ∙ tmp_below_root root (dlrepo ∷ codes "refs" ∷ codes "heads" ∷ pieces name) clear
    ∙ branch_firm name named
