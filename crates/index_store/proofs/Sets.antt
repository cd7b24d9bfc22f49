-- An index as it is set: from a limit and one file that is put.
use Rattle.std.proofs.Common.{◌≡◌, ◌≢◌, ◌≤◌, ◌<◌, ℕ, Bool, List, [], ◌∷◌, length, Result, Err, codes, refl, sym, ap, ◌∙◌, subst, arith}
use Rattle.places.specs.All.{Names, text_of}
use Rattle.file_store.specs.All.{Drive, only}
use Rattle.faults.specs.declared.faults.Fault.{Fault}
use Rattle.faults.specs.declared.faults.Fault.TheVariants.{TooLarge, Blocked}
use Rattle.faults.specs.declared.faults.Trouble.{Trouble}
use Rattle.faults.specs.declared.faults.Trouble.TheVariants.{Refused}
use Rattle.repository.specs.All.{index_place, repo_limit, repo_of, tmp_names, tmp_place}
use Rattle.repository.proofs.Temporary.{outside_apart}
use Rattle.repository.proofs.Unfinished.{is_in-under, repo_below}
use Rattle.acts.specs.All.{ActsQuietly, CanReplace, MayBlock, puts}
use Rattle.acts.proofs.Laws.{by_name, fails, handed, passes_on, seq, stops_on}
use Rattle.ref_store.specs.All.{long_repo}
use Rattle.ref_store.proofs.Sets.{can_replace, fits_is, long_is}
use Rattle.snapshot.specs.declared.entries.Entry.{Entry}
use Rattle.index_store.specs.Indexes.{MaySetIndex, sets_index, snapshot_text}

-- the index is no unfinished write
index_apart : (root tmp place : Names) → tmp ≡ tmp_place (repo_of root) 0 → place ≡ index_place root → tmp ≢ place
index_apart root tmp place at_tmp at_place e =
    outside_apart (repo_of root) (index_place root) 0 (is_in-under (repo_of root) tmp_names (codes "index" ∷ [])) (sym at_place ∙ sym e ∙ at_tmp)

pub can_set : (root tmp place : Names) (bytes : List ℕ) → tmp ≡ tmp_place (repo_of root) 0 → place ≡ index_place root → CanReplace (only tmp place bytes)
can_set root tmp place bytes at_tmp at_place = can_replace (repo_of root) tmp place bytes (repo_below root) at_tmp (index_apart root tmp place at_tmp at_place)

block_index : (tells : Bool) (root : Names) (fault : Fault) → MayBlock tells fault → MaySetIndex tells root fault
block_index tells root (Blocked at) may = may
block_index tells root fault may = absurd may

module _ (tells : Bool) (root : Names) (list : List Entry) (old : Drive) where
  abbrev Sets : Drive → Result (Unit {0}) Trouble → Type 0
  Sets new r = ActsQuietly (λ fault. MaySetIndex tells root fault) tells (sets_index root list) old new r

  pub set_long : (text : List ℕ) (fault : Fault) → repo_limit < length text → text ≡ text_of (repo_of root) → fault ≡ TooLarge text (length text) → Sets old (Err (Refused fault))
  unfolding sets_index
  set_long text fault long is same =
      let too_long : repo_limit < length (text_of (repo_of root)) = subst (λ (t : List ℕ). repo_limit < length t) is long in
      let own : fault ≡ TooLarge (text_of (repo_of root)) (length (text_of (repo_of root))) = same ∙ ap (λ (t : List ℕ). TooLarge t (length t)) is in
      fails _ (stops_on (λ g. long_repo (repo_of root)) (subst (λ (z : Fault). MaySetIndex tells root z) (sym own) (refl, refl, too_long)) (omega arith) (λ t. (refl, long_is (repo_of root) fault too_long own)))

  pub set_put : length (text_of (repo_of root)) ≤ repo_limit → (tmp place : Names) (bytes : List ℕ) → tmp ≡ tmp_place (repo_of root) 0 → place ≡ index_place root → bytes ≡ snapshot_text list
      → (new : Drive) (r : Result (Unit {0}) Trouble) → ActsQuietly (λ fault. MayBlock tells fault) tells (puts (only tmp place bytes)) old new r → Sets new r
  unfolding sets_index
  set_put fits tmp place bytes at_tmp at_place text new r put =
      seq _ (passes_on (λ g. long_repo (repo_of root)) (omega arith) (λ t. (refl, fits_is (repo_of root) fits)))
      (handed (λ fault may. block_index tells root fault may) (by_name (λ i. puts (only (at_tmp i) (at_place i) (text i))) put))
