-- The objects of a flat save may be put, and its commit is whole then.
use Rattle.std.proofs.Common.{◌≡◌, ◌⊎◌, inl, inr, ⊎_elim, ℕ, false, List, [], ◌∷◌, ◌++◌, Option, Some, None, refl, sym, ap, ◌∙◌, subst}
use Rattle.std.specs.Prelude.{is_some}
use Rattle.std.proofs.lemmas.Bool.{cases_Bool}
use Rattle.git_objects.specs.All.{Fields, IsCommitText, oid}
use Rattle.git_objects.specs.declared.ids.Id.{Id}
use Rattle.places.specs.All.{Names, Ground, file_at, stands}
use Rattle.git_objects.specs.declared.objects.ObjKind.TheVariants.{Blob as BlobKind}
use Rattle.git_objects.specs.declared.objects.ObjKind.TheVariants.{Tree as TreeKind}
use Rattle.git_objects.specs.declared.objects.ObjKind.TheVariants.{Commit as CommitKind}
use Rattle.git_objects.proofs.Parsing.{commit_once}
use Rattle.faults.specs.declared.faults.Fault.{Fault}
use Rattle.repository.specs.All.{Head, IsHeld, repo_of}
use Rattle.repository.proofs.Holds.{is_held}
use Rattle.object_store.specs.All.{place_in, object_text, with_objects, fault_in, first_fault}
use Rattle.object_store.specs.declared.objects.NewObject.{NewObject}
use Rattle.file_store.specs.All.{or_next}
use Rattle.object_store.proofs.Ours.{held_text}
use Rattle.snapshot.specs.All.{Dir, Empty, Item, Sub, tree_of, inner_objects, tree_objects, inside}
use Rattle.snapshot.specs.All.{listed, AreHeld}
use Rattle.snapshot.specs.declared.entries.Entry.{Entry}
use Rattle.snapshot.specs.declared.entries.Leaf.{Leaf}
use Rattle.snapshot.specs.declared.entries.Leaf.TheVariants.{Git, Link, Pin}
use Rattle.dataset.specs.Whole.{Has, IsLeafHeld, EachLeaf, IsWhole, AreWhole}
use Rattle.dataset.specs.Sound.{IsSoundAt, Sound, HoldsAllIn}
use Rattle.dataset.specs.Rounds.{AreFree, CanPut}
use Rattle.dataset.specs.Saves.{IsNewCommit, IsSave, blob_objects, commit_object, saved_objects}
use Rattle.dataset.specs.Saves.{IsLeafThere, IsFlatSave}
use Rattle.dataset.proofs.Wholes.{are_whole_stay}
use Rattle.dataset.proofs.Putting.{put_held, put_holds, after_some}
use Rattle.dataset.proofs.Commits.{has_left, has_right, has_either, new_commit_whole}

-- ---- where the store finds no fault

pub neither : (a b : Option Fault) → or_next a b ≡ None → (a ≡ None) × (b ≡ None)
neither None b e = (refl, e)
neither (Some f) b e = absurd (cc e)

is_none : (o : Option (List ℕ)) → is_some o ≡ false → o ≡ None
is_none None h = refl
is_none (Some text) h = absurd (cc h)

pub no_fault_free : (repo : Names) (objects : List NewObject) (g : Ground) → first_fault repo objects g ≡ None → AreFree repo objects g
no_fault_free repo [] g e o has = absurd has
no_fault_free repo (x ∷ objects) g e o has =
    let parts = neither (fault_in repo x (file_at g (place_in repo x))) (first_fault repo objects g) e in
    elim has [
      | inl is ↦ subst (λ (z : NewObject). (file_at g (place_in repo z) ≡ None) ⊎ (file_at g (place_in repo z) ≡ Some (object_text z))) is (elim (cases_Bool (stands g (place_in repo x))) [
        | inl there ↦ inr (held_text repo g x parts.0 there)
        | inr gone ↦ inl (is_none (file_at g (place_in repo x)) gone)
      ])
      | inr rest ↦ no_fault_free repo objects g parts.1 o rest
    ]

-- ---- kinds

blob_kind : (blobs : List (List ℕ)) (o : NewObject) → Has (blob_objects blobs) o → o.kind ≡ BlobKind
blob_kind [] o has = absurd has
blob_kind (body ∷ blobs) o (inl is) = sym (ap (λ (z : NewObject). z.kind) is)
blob_kind (body ∷ blobs) o (inr rest) = blob_kind blobs o rest

inner_kind : (dir : Dir) (o : NewObject) → Has (inner_objects dir) o → o.kind ≡ TreeKind
inner_kind Empty o has = absurd has
inner_kind (Item name leaf more) o has = inner_kind more o has
inner_kind (Sub name sub more) o has = elim (has_either (inner_objects sub ++ tree_of sub ∷ []) (inner_objects more) o has) [
  | inl own ↦ elim (has_either (inner_objects sub) (tree_of sub ∷ []) o own) [
    | inl deep ↦ inner_kind sub o deep
    | inr top ↦ ⊎_elim (λ is. sym (ap (λ (z : NewObject). z.kind) is)) (λ none. absurd none) top
  ]
  | inr rest ↦ inner_kind more o rest
]

tree_kind : (dir : Dir) (o : NewObject) → Has (tree_objects dir) o → o.kind ≡ TreeKind
tree_kind dir o has = elim (has_either (inner_objects dir) (tree_of dir ∷ []) o has) [
  | inl deep ↦ inner_kind dir o deep
  | inr top ↦ ⊎_elim (λ is. sym (ap (λ (z : NewObject). z.kind) is)) (λ none. absurd none) top
]

-- ---- lists

blob_listed : (blobs : List (List ℕ)) (body : List ℕ) → Has blobs body → Has (blob_objects blobs) (record { kind = BlobKind; body = body })
blob_listed [] body has = absurd has
blob_listed (x ∷ blobs) body (inl is) = inl (λ i. record { kind = BlobKind; body = is i })
blob_listed (x ∷ blobs) body (inr rest) = inr (blob_listed blobs body rest)

held_list : (repo : Names) (g : Ground) (xs : List NewObject) → ((o : NewObject) → Has xs o → IsHeld g repo (oid o.kind o.body) o.kind o.body) → AreHeld repo g xs
held_list repo g [] h = tt
held_list repo g (x ∷ xs) h = (h x (inl refl), held_list repo g xs (λ o has. h o (inr has)))

-- what holds of the leaf of each path holds of each leaf
each_leaf : (P : Leaf → Type 0) (path : List ℕ) (dir : Dir) → ((e : Entry) → Has (listed path dir) e → P e.leaf) → EachLeaf P dir
each_leaf P path Empty h = tt
each_leaf P path (Item name leaf more) h = (h (record { path = path ++ name; leaf = leaf }) (inl refl), each_leaf P path more (λ e has. h e (inr has)))
each_leaf P path (Sub name sub more) h = (
  each_leaf P (inside path name) sub (λ e has. h e (has_left (listed (inside path name) sub) (listed path more) e has)),
  each_leaf P path more (λ e has. h e (has_right (listed (inside path name) sub) (listed path more) e has)),
)

module _ (root : Names) (head : Head) (blobs : List (List ℕ)) (paths : List Entry) (trees : List NewObject) (fields : Fields) (body : List ℕ) (g : Ground)
    (sound : Sound g) (save : IsFlatSave root head blobs paths trees fields body g) where
  abbrev repo : Names
  repo = repo_of root

  abbrev objects : List NewObject
  objects = saved_objects blobs trees body

  abbrev after : Ground
  after = with_objects repo objects g

  at : IsSoundAt root g
  at = sound root save.dataset

  -- the old head is whole
  head_whole : AreWhole repo fields.parents g
  head_whole p has =
      let heads : Some at.heads.head ≡ Some head = sym at.heads.leads ∙ save.leads in
      let same : at.heads.head ≡ head = cc heads in
      let whole : IsWhole repo head.id g = subst (λ (h : Head). IsWhole repo h.id g) same at.heads.whole in
      let one : Has (record { 0 = head.id } ∷ []) p = subst (λ (ids : List Id). Has ids p) save.parents has in
      elim one [
        | inl is ↦ subst (λ (z : Id). IsWhole repo z.0 g) is whole
        | inr none ↦ absurd none
      ]

  only_commit : (o : NewObject) → Has objects o → o.kind ≡ CommitKind → o ≡ commit_object body
  only_commit o has kind = elim (has_either (blob_objects blobs ++ trees) (commit_object body ∷ []) o has) [
    | inl other ↦ elim (has_either (blob_objects blobs) trees o other) [
      | inl blob ↦ absurd (cc (sym kind ∙ blob_kind blobs o blob))
      | inr one ↦ absurd (cc (sym kind ∙ tree_kind save.built.dir o (subst (λ (z : List NewObject). Has z o) save.built.all one)))
    ]
    | inr last ↦ ⊎_elim (λ is. sym is) (λ none. absurd none) last
  ]

  can : CanPut repo objects g
  can = record {
    free = save.free;
    parents = λ o has kind other text.
        let own : IsCommitText body other = subst (λ (z : NewObject). IsCommitText z.body other) (only_commit o has kind) text in
        subst (λ (f : Fields). AreWhole repo f.parents g) (commit_once body fields other save.text own) head_whole;
  }

  held : (o : NewObject) → Has objects o → IsHeld after repo (oid o.kind o.body) o.kind o.body
  held o has = put_held repo objects g save.own o has

  kept : HoldsAllIn repo g after
  kept = put_holds root objects g after at.outside can (after_some repo objects g) root at.outside

  blob_there : (id : Id) → IsLeafThere repo g blobs (Link id) → IsLeafHeld repo after (Link id)
  blob_there id (inl (b, is)) = (b, kept id.0 _ is)
  blob_there id (inr (b, has, named)) =
      let one = held (record { kind = BlobKind; body = b }) (has_left (blob_objects blobs ++ trees) (commit_object body ∷ []) _ (has_left (blob_objects blobs) trees _ (blob_listed blobs b has))) in
      (b, is_held after repo id.0 BlobKind b (subst (λ (z : List ℕ). IsHeld after repo z BlobKind b) named one))

  leaf_there : (leaf : Leaf) → IsLeafThere repo g blobs leaf → IsLeafHeld repo after leaf
  leaf_there (Git id exec) h = blob_there id h
  leaf_there (Link id) h = blob_there id h
  leaf_there (Pin id) h = h

  new_commit : IsNewCommit repo save.built.dir fields body after
  new_commit = record {
    text = save.text;
    tree = save.built.top;
    held = held (commit_object body) (has_right (blob_objects blobs ++ trees) (commit_object body ∷ []) (commit_object body) (inl refl));
    valid = save.built.valid;
    trees = held_list repo after (tree_objects save.built.dir) (λ o has.
        held o (has_left (blob_objects blobs ++ trees) (commit_object body ∷ []) o (has_right (blob_objects blobs) trees o (subst (λ (z : List NewObject). Has z o) (sym save.built.all) has))));
    leaves = each_leaf (IsLeafHeld repo after) [] save.built.dir (λ e has. leaf_there e.leaf (save.leaves e (subst (λ (z : List Entry). Has z e) (sym save.built.same) has)));
    before = are_whole_stay repo g after kept fields.parents head_whole;
  }

  pub flat_save : IsSave root head objects (oid CommitKind body) g
  flat_save = record { outside = at.outside; leads = save.leads; put = can; whole = new_commit_whole repo after save.built.dir fields body new_commit }
