-- The first commit of a new dataset is whole once its objects are put, and its rounds are a birth.
use Rattle.std.proofs.Common.{◌≡◌, inl, inr, ℕ, ◌<◌, ◌^◌, Bool, true, false, ◌&&◌, List, [], ◌∷◌, ◌++◌, Some, None, refl, sym, ap, ◌∙◌, subst, append-nil}
use Rattle.std.specs.Prelude.{codes, bytes_eq, not, cond}
use Rattle.std.proofs.lemmas.List.Elements.{All-nil, All-cons}
use Rattle.places.specs.All.{Names, has_name, Ground, file_at}
use Rattle.places.proofs.Texts.{or_neither}
use Rattle.file_store.specs.All.{Round}
use Rattle.git_objects.specs.All.{Fields, IsCommitText, IsId, IsExtra, IsLine, oid, entry_of}
use Rattle.git_objects.specs.All.{tree_text, commit_text, person_text, IsEntryStored}
use Rattle.git_objects.specs.All.{IsPersonStored}
use Rattle.git_objects.specs.declared.people.Person.{Person}
use Rattle.git_objects.specs.declared.entries.Mode.TheVariants.{File, Dir as DirMode}
use Rattle.git_objects.specs.declared.objects.ObjKind.TheVariants.{Blob, Tree, Commit}
use Rattle.git_objects.proofs.Lengths.{length-oid}
use Rattle.git_objects.proofs.Parsing.{commit_once}
use Rattle.repository.specs.All.{is_branch, IsHeld, dlrepo, repo_of, config_place, index_place}
use Rattle.repository.specs.All.{is_tmp}
use Rattle.repository.proofs.Holds.{is_held}
use Rattle.index_store.specs.All.{snapshot_text}
use Rattle.object_store.specs.All.{with_objects}
use Rattle.object_store.specs.declared.objects.NewObject.{NewObject}
use Rattle.snapshot.specs.All.{Dir, Empty, Item, Sub, entries_of, root_id, IsTreeOf, leaf_entry}
use Rattle.snapshot.specs.All.{dir_entry}
use Rattle.snapshot.specs.declared.entries.Leaf.TheVariants.{Git}
use Rattle.dataset.specs.All.{birth_rounds, IsBirth, NoneCollide, IsNewCommit, IsConfiguration}
use Rattle.dataset.specs.All.{IsRoot, is_looked_at, is_seen, is_watched, Has, IsWhole}
use Rattle.dataset.proofs.Commits.{new_commit_whole}
use Rattle.dataset.proofs.Ids.{oid_is_id}
use Rattle.dataset.proofs.Putting.{put_held}
use Rattle.dataset.proofs.Splits.{unwatched_at}
use Rattle.recursive_save.specs.First.{dataset_config, settings_text, first_objects, first_id}
use Rattle.recursive_save.specs.First.{first_commit, first_message, inner_tree, root_tree}
use Rattle.recursive_save.specs.First.{default_person, default_name, default_email, new_dataset}
use Rattle.recursive_save.specs.First.{new_parts, dataset_rounds, first_snapshot, head_text}
use Rattle.recursive_save.proofs.FirstFacts.{user_is_person, config_is_entry, datalad_is_entry}

-- the file that is kept in git, and the index
abbrev pub working_round : Names → List ℕ → Round
working_round root config = (config_place root, Some config) ∷ (index_place root, Some (snapshot_text (first_snapshot config))) ∷ []

-- a working file isn't watched
config_unseen : (root : Names) → IsRoot root → is_seen (config_place root) ≡ false
config_unseen [] h = refl
config_unseen (n ∷ root) h =
    let parts = or_neither (bytes_eq dlrepo n) (has_name dlrepo root) h in
    ap (λ b. cond b (is_looked_at (config_place root)) (is_seen (config_place root))) parts.0 ∙ config_unseen root parts.1

and_none : (b c : Bool) → c ≡ false → (b && c) ≡ false
and_none true c h = h
and_none false c h = refl

config_unwatched : (root : Names) → IsRoot root → is_watched (config_place root) ≡ false
config_unwatched root h = and_none (not (is_tmp (config_place root))) (is_seen (config_place root)) (config_unseen root h)

main_is_branch : is_branch (codes "main") ≡ true
unfolding is_branch
main_is_branch = refl

the_person : ℕ → Person
the_person moment = record { name = codes "DataLad User"; email = codes "user@localhost"; secs = moment; zone = codes "+0000"; valid = user_is_person }

person_is : (moment : ℕ) → default_person moment ≡ person_text (the_person moment)
unfolding default_person default_name default_email the_person
person_is moment = refl

person_stored : (moment : ℕ) → moment < 2 ^ 64 → IsPersonStored (the_person moment)
unfolding lib.Utf8.encode the_person
person_stored moment dated = record { name = (codes "DataLad User", (refl, refl)); email = (codes "user@localhost", (refl, refl)); size = dated }

no_extra : IsExtra []
no_extra = record { lines = []; printed = refl; each = All-nil IsLine; first = λ e. cc e }

module _ (root : Names) (moment : ℕ) (dated : moment < 2 ^ 64) (config : List ℕ) (g : Ground) (own : NoneCollide (repo_of root) (first_objects config moment)) where
  abbrev repo : Names
  repo = repo_of root

  abbrev objects : List NewObject
  objects = first_objects config moment

  abbrev after : Ground
  after = with_objects repo objects g

  abbrev inner : Dir
  inner = Item (codes "config") (Git (record { 0 = oid Blob config }) false) Empty

  abbrev dir : Dir
  dir = Sub (codes ".datalad") inner Empty

  abbrev body : List ℕ
  body = first_commit config moment

  inner_is : tree_text (entries_of inner) ≡ inner_tree config
  inner_is = append-nil (entry_of File (codes "config") (oid Blob config))

  root_is : tree_text (entries_of dir) ≡ root_tree config
  root_is = append-nil (entry_of DirMode (codes ".datalad") (root_id inner)) ∙ ap (λ (z : List ℕ). entry_of DirMode (codes ".datalad") (oid Tree z)) inner_is

  abbrev fields : Fields
  fields = record { tree = record { 0 = root_id dir }; parents = []; author = the_person moment; committer = the_person moment; extra = []; message = first_message }

  text : IsCommitText body fields
  text = record {
    tree = oid_is_id Tree (tree_text (entries_of dir));
    parents = All-nil (λ p. IsId p.0);
    author = person_stored moment dated;
    committer = person_stored moment dated;
    extra = no_extra;
    text = λ i. commit_text (oid Tree (sym root_is i)) [] (person_is moment i) (person_is moment i) [] first_message;
  }

  only_commit : (o : NewObject) → Has objects o → o.kind ≡ Commit → o ≡ record { kind = Commit; body = body }
  only_commit o (inl is) kind = absurd (cc (ap (λ (z : NewObject). z.kind) is ∙ kind))
  only_commit o (inr (inl is)) kind = absurd (cc (ap (λ (z : NewObject). z.kind) is ∙ kind))
  only_commit o (inr (inr (inl is))) kind = absurd (cc (ap (λ (z : NewObject). z.kind) is ∙ kind))
  only_commit o (inr (inr (inr (inl is)))) kind = sym is
  only_commit o (inr (inr (inr (inr none)))) kind = absurd none

  held : (o : NewObject) → Has objects o → IsHeld after repo (oid o.kind o.body) o.kind o.body
  held o has = put_held repo objects g own o has

  inner_tree_of : IsTreeOf inner
  unfolding lib.Utf8.encode
  inner_tree_of = record {
    stored = All-cons IsEntryStored (leaf_entry (codes "config") (Git (record { 0 = oid Blob config }) false)) [] (record { utf8 = (codes "config", (refl, refl)); size = length-oid Blob config }) (All-nil IsEntryStored);
    valid = λ i. config_is_entry File (record { 0 = oid Blob config }) i && true && true;
  }

  dir_tree_of : IsTreeOf dir
  unfolding lib.Utf8.encode
  dir_tree_of = record {
    stored = All-cons IsEntryStored (dir_entry (codes ".datalad") (record { 0 = root_id inner })) [] (record { utf8 = (codes ".datalad", (refl, refl)); size = length-oid Tree (tree_text (entries_of inner)) }) (All-nil IsEntryStored);
    valid = λ i. datalad_is_entry DirMode (record { 0 = root_id inner }) i && true && true;
  }

  new_commit : IsNewCommit repo dir fields body after
  new_commit = record {
    text = text;
    tree = refl;
    held = held (record { kind = Commit; body = body }) (inr (inr (inr (inl refl))));
    valid = (dir_tree_of, (inner_tree_of, tt, tt));
    trees = (
      subst (λ (z : List ℕ). IsHeld after repo (oid Tree z) Tree z) (sym inner_is) (held (record { kind = Tree; body = inner_tree config }) (inr (inl refl))),
      (subst (λ (z : List ℕ). IsHeld after repo (oid Tree z) Tree z) (sym root_is) (held (record { kind = Tree; body = root_tree config }) (inr (inr (inl refl)))), tt),
    );
    leaves = (((config, is_held after repo (oid Blob config) Blob config (held (record { kind = Blob; body = config }) (inl refl))), tt), tt);
    before = λ p has. absurd has;
  }

  pub whole : IsWhole repo (first_id config moment) after
  whole = new_commit_whole repo after dir fields body new_commit

  pub no_parents : (o : NewObject) → Has objects o → o.kind ≡ Commit → (other : Fields) → IsCommitText o.body other → other.parents ≡ []
  no_parents o has kind other t =
      ap (λ (f : Fields). f.parents) (commit_once body other fields (subst (λ (z : NewObject). IsCommitText z.body other) (only_commit o has kind) t) text)

-- WHAT CREATE WRITES is the birth of a dataset
module _ (root : Names) (moment : ℕ) (fresh : List ℕ) where
  abbrev config : List ℕ
  config = dataset_config fresh root

  pub first_birth : (g : Ground) → IsRoot root → moment < 2 ^ 64 → ((names : Names) → file_at g (repo_of root ++ names) ≡ None)
      → NoneCollide (repo_of root) (first_objects config moment) → IsConfiguration (settings_text fresh root)
      → IsBirth root (first_objects config moment) (working_round root config) (settings_text fresh root) (codes "main") (first_id config moment) g
  first_birth g outside dated vacant own valid = record {
    outside = outside;
    vacant = vacant;
    first = no_parents root moment dated config g own;
    unwatched = (config_unwatched root outside, (unwatched_at root (codes "index" ∷ []) outside refl, tt));
    valid = valid;
    named = main_is_branch;
    whole = whole root moment dated config g own;
  }

  pub birth_is : birth_rounds root (first_objects config moment) (working_round root config) (settings_text fresh root) (codes "main") (first_id config moment)
      ≡ dataset_rounds root (new_parts (new_dataset root moment fresh))
  unfolding head_text
  birth_is = refl
