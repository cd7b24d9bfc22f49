-- What stands after a tip or HEAD was set.
use Rattle.std.proofs.Common.{◌≡◌, ◌≢◌, ⊎_elim, ℕ, cond, List, [], ◌∷◌, Option, Some, None, refl, ap, ◌∙◌}
use Rattle.std.specs.Prelude.{option_map, codes}
use Rattle.places.specs.All.{Names, pieces, Ground, file_at}
use Rattle.places.proofs.Above.{same_rest}
use Rattle.file_store.specs.All.{Round, with_file, changed, finally, or_next, only}
use Rattle.file_store.proofs.Rounds.{with_file_same, with_file_other}
use Rattle.git_objects.specs.All.{IsId}
use Rattle.repository.specs.All.{Head, id_text, branch_in, head_of, repo_head, branch_place}
use Rattle.repository.specs.All.{tip_place, tmp_place}
use Rattle.repository.proofs.HeadTexts.{id_in-text, id_in-ref, branch_in-ref}
use Rattle.repository.proofs.Heading.{IsDetached, IsOnBranch, how_read, reads_detached, reads_on_branch}
use Rattle.repository.proofs.Temporary.{outside_apart}
use Rattle.acts.specs.All.{unless, bind, whole_round}
use Rattle.ref_store.specs.Forms.{detached, attached, head_text, head_given}
use Rattle.ref_store.specs.Laws.{with_id, IsHead, SetTipSets, SetHeadSets}
use Rattle.ref_store.specs.Reading.{given, head_at}
use Rattle.ref_store.specs.Setting.{long_repo, tip_at, puts_one, sets_head}
use Rattle.ref_store.specs.declared.heads.Head.{Head as Named}
use Rattle.ref_store.specs.declared.heads.Head.TheVariants.{Branch, Detached}
use Rattle.ref_store.proofs.Keeping.{OneRound, puts_round, unless_then, set_round, branch_is}
use Rattle.ref_store.proofs.Leading.{same_branch}
use Rattle.ref_store.proofs.Sets.{tip_outside}

-- the ground with one file put
module _ (g : Ground) (tmp place : Names) (text : List ℕ) where
  abbrev put : Ground
  put = changed (whole_round (only tmp place text)) g

  put_there : place ≢ tmp → file_at put place ≡ Some text
  put_there other = with_file_other tmp None (with_file place (Some text) g) place other ∙ with_file_same place (Some text) g place refl

  put_elsewhere : (q : Names) → q ≢ tmp → q ≢ place → file_at put q ≡ file_at g q
  put_elsewhere q other differ = with_file_other tmp None (with_file place (Some text) g) q other ∙ with_file_other place (Some text) g q differ

no_tmp : (repo : Names) (branch : Option (List ℕ)) → tip_place repo branch ≢ tmp_place repo 0
no_tmp repo branch = outside_apart repo (tip_place repo branch) 0 (tip_outside repo branch)

-- ---- the tip
module _ (repo : Names) (id : List ℕ) (head : Head) (g : Ground) (whole : IsId id) where
  abbrev set : Names → Ground
  set place = put g (tmp_place repo 0) place (id_text id)

  abbrev files : Ground → List ℕ → Option (List ℕ)
  files h name = file_at h (branch_place repo name)

  was_detached : IsDetached (file_at g (repo_head repo)) head → head_of (set (tip_place repo None)) repo ≡ Some (with_id head id)
  was_detached is = reads_detached (files (set (repo_head repo))) (file_at (set (repo_head repo)) (repo_head repo)) (with_id head id)
      (record { text = id_text id; stands = put_there g (tmp_place repo 0) (repo_head repo) (id_text id) (no_tmp repo None); names = id_in-text id whole; branch = is.branch })

  was_on_branch : (is : IsOnBranch (files g) (file_at g (repo_head repo)) head) → head_of (set (tip_place repo (Some is.name))) repo ≡ Some (with_id head id)
  was_on_branch is =
      let place = branch_place repo is.name in
      let differ : repo_head repo ≢ place = λ e.
      let rest : codes "HEAD" ∷ [] ≡ codes "refs" ∷ codes "heads" ∷ pieces is.name = same_rest repo (codes "HEAD" ∷ []) (codes "refs" ∷ codes "heads" ∷ pieces is.name) e in
      cc rest in
      let same_head : file_at (set place) (repo_head repo) ≡ file_at g (repo_head repo) = put_elsewhere g (tmp_place repo 0) place (id_text id) (repo_head repo) (no_tmp repo None) differ in
      reads_on_branch (files (set place)) (file_at (set place) (repo_head repo)) (with_id head id)
      (record { text = is.text; stands = same_head ∙ is.stands; no_id = is.no_id; name = is.name; named = is.named; branch = is.branch; tip = id_text id; there = put_there g (tmp_place repo 0) place (id_text id) (no_tmp repo (Some is.name)); leads = id_in-text id whole })

  now_leads : head_of g repo ≡ Some head → head_of (set (tip_place repo head.branch)) repo ≡ Some (with_id head id)
  now_leads e = ⊎_elim
      (λ (is : IsDetached (file_at g (repo_head repo)) head). ap (λ (b : Option (List ℕ)). head_of (set (tip_place repo b)) repo) is.branch ∙ was_detached is)
      (λ (is : IsOnBranch (files g) (file_at g (repo_head repo)) head). ap (λ (b : Option (List ℕ)). head_of (set (tip_place repo b)) repo) is.branch ∙ was_on_branch is)
      (how_read (files g) (file_at g (repo_head repo)) head e)

pub tip_sets : SetTipSets
tip_sets repo id head g whole leads done =
    let rounds = (set_round repo id g).done tt done in
    let there : tip_at repo g ≡ tip_place repo head.branch = ap (tip_place repo) (branch_is (head_at repo g) head.branch (same_branch repo g head leads)) in
    ap (λ (rs : List Round). head_of (finally rs g) repo) rounds
    ∙ ap (λ (p : Names). head_of (put g (tmp_place repo 0) p (id_text id)) repo) there
    ∙ now_leads repo id head g whole leads

-- ---- HEAD
head_round : (repo : Names) (head : Named) (g : Ground) → OneRound (sets_head repo head g) (whole_round (only (tmp_place repo 0) (repo_head repo) (head_text head)))
unfolding sets_head bind unless
head_round repo head g = unless_then (long_repo repo) g (puts_one repo (repo_head repo) (head_text head)) _ (puts_round (only (tmp_place repo 0) (repo_head repo) (head_text head)) g)

gives_back : (head : Named) → IsHead head → head_given (head_text head) ≡ Some head
gives_back (Branch name) named =
    (λ i. or_next (option_map (λ id. detached id) (id_in-ref name i)) (option_map (λ n. attached n) (branch_in-ref name i)))
    ∙ ap (λ b. option_map (λ n. attached n) (cond b (Some name) None)) named
gives_back (Detached id) whole = ap (λ (o : Option (List ℕ)). or_next (option_map (λ i. detached i) o) (option_map (λ n. attached n) (branch_in (id_text id.0)))) (id_in-text id.0 whole)

pub head_sets : SetHeadSets
head_sets repo head g is done =
    let rounds = (head_round repo head g).done tt done in
    ap (λ (rs : List Round). head_at repo (finally rs g)) rounds
    ∙ ap (given head_given) (put_there g (tmp_place repo 0) (repo_head repo) (head_text head) (no_tmp repo None))
    ∙ gives_back head is
