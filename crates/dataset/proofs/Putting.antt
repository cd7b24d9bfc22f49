-- Objects that are put one by one keep a ground sound.
use Rattle.std.proofs.Common.{◌≡◌, ◌⊎◌, inl, inr, ℕ, List, [], ◌∷◌, ◌++◌, Option, Some, refl, sym, ap, ◌∙◌, subst}
use Rattle.std.specs.Prelude.{is_some, IsSome}
use Rattle.places.specs.All.{Names, Ground, file_at}
use Rattle.places.proofs.Grounds.{cases_place, file_at-insert_same, file_at-insert_other}
use Rattle.git_objects.specs.All.{IsCommitText, oid, hex_of, text_of_object, Object}
use Rattle.git_objects.specs.declared.objects.ObjKind.TheVariants.{Commit as CommitKind}
use Rattle.git_objects.proofs.Digits.{hex_of-injective}
use Rattle.git_objects.proofs.Parsing.{kind_once}
use Rattle.repository.specs.All.{IsHeld, object_of, repo_of, head_place, object_names, object_place}
use Rattle.repository.proofs.Holds.{held_is, is_held}
use Rattle.object_store.specs.All.{place_in, object_text, objects_round, with_objects}
use Rattle.object_store.specs.declared.objects.NewObject.{NewObject}
use Rattle.dataset.specs.Watched.{IsRoot, IsWatched}
use Rattle.dataset.specs.Whole.{Has, AreWhole}
use Rattle.dataset.specs.Sound.{IsDataset, HasSoundObjects, Sound, HoldsAll, HoldsContents, SameHeads}
use Rattle.dataset.specs.Rounds.{LiesWatched, IsIntact, KeepsSound, IsPut, HasSome, CanPut}
use Rattle.dataset.specs.Saves.{NoneCollide}
use Rattle.dataset.proofs.Splits.{split_once, no_head, digits_once, watched_at, head_is_watched, object_watched}
use Rattle.dataset.proofs.Ids.{oid_is_id}
use Rattle.dataset.proofs.Wholes.{are_whole_stay}
use Rattle.dataset.proofs.Watching.{is_object_name, SameRest, contents_too, head_as, grown}
use Rattle.dataset.proofs.Rows.{old_or_new, lies_watched}

-- what stands at a place after the round
pub put_at : (repo : Names) (g : Ground) (objects : List NewObject) (q : Names)
    → (file_at (with_objects repo objects g) q ≡ file_at g q) ⊎ IsPut repo objects q (file_at (with_objects repo objects g) q)
put_at repo g [] q = inl refl
put_at repo g (o ∷ os) q =
    let before = with_objects repo os g in
    elim (cases_place q (place_in repo o)) [
      | inl is ↦ inr (record { object = o; has = inl refl; place = is; text = file_at-insert_same before (place_in repo o) (object_text o) q is })
      | inr other ↦
          let same = file_at-insert_other before (place_in repo o) (object_text o) q other in
          elim (put_at repo g os q) [
            | inl kept ↦ inl (same ∙ kept)
            | inr put ↦ inr (record { object = put.object; has = inr put.has; place = put.place; text = same ∙ put.text })
          ]
    ]

-- what lies between has some of the objects
pub some_of : (repo : Names) (objects : List NewObject) (g x : Ground) → LiesWatched g (with_objects repo objects g) x → HasSome repo objects g x
some_of repo objects g x lies q watched = elim (old_or_new g (with_objects repo objects g) x lies q watched) [
  | inl same ↦ inl same
  | inr new ↦ elim (put_at repo g objects q) [
    | inl kept ↦ inl (new ∙ kept)
    | inr put ↦ inr (record { object = put.object; has = put.has; place = put.place; text = new ∙ put.text })
  ]
]

module _ (root : Names) (objects : List NewObject) (g x : Ground) (outside : IsRoot root) (can : CanPut (repo_of root) objects g)
    (seen : HasSome (repo_of root) objects g x) where
  -- no file is replaced by another one
  stays : (q : Names) (text : List ℕ) → IsWatched q → file_at g q ≡ Some text → file_at x q ≡ Some text
  stays q text watched e = elim (seen q watched) [
    | inl same ↦ same ∙ e
    | inr put ↦ elim (can.free put.object put.has) [
      | inl free ↦ absurd (cc (sym e ∙ ap (file_at g) put.place ∙ free))
      | inr own ↦ put.text ∙ sym own ∙ sym (ap (file_at g) put.place) ∙ e
    ]
  ]

  object_there : (s : Names) (id : List ℕ) → IsRoot s → IsWatched (object_place (repo_of s) id)
  object_there s id apart = watched_at s (object_names (hex_of id)) apart (object_watched (hex_of id))

  pub put_holds : HoldsAll g x
  put_holds s apart id o h =
      let is = held_is g (repo_of s) id o h in
      ap (object_of id) (stays (object_place (repo_of s) id) (text_of_object o.kind o.body) (object_there s id apart) is.stands) ∙ sym (ap (object_of id) is.stands) ∙ h

  -- nothing but objects changes
  pub put_rest : (s : Names) → IsRoot s → SameRest s x g
  put_rest s apart names watched other = elim (seen (repo_of s ++ names) (watched_at s names apart watched)) [
    | inl same ↦ same
    | inr put ↦
        let split = split_once s root names (object_names (hex_of (oid put.object.kind put.object.body))) apart outside put.place in
        absurd (cc (sym other ∙ ap is_object_name split.1))
  ]

  pub put_heads : SameHeads x g
  put_heads s apart = head_as s g x (put_rest s apart)

  put_contents : HoldsContents g x
  put_contents s apart = contents_too s g x (put_rest s apart)

  no_new_dataset : (s : Names) → IsDataset s x → IsDataset s g
  no_new_dataset s is = elim (seen (head_place s) (head_is_watched s)) [
    | inl same ↦ ap is_some (sym same) ∙ is
    | inr put ↦ absurd (no_head s root (hex_of (oid put.object.kind put.object.body)) put.place)
  ]

  -- the object that was put under an id
  record IsNew (s : Names) (id : List ℕ) (v : Option (List ℕ)) : Type 0 where
    object : NewObject
    has : Has objects object
    same : s ≡ root
    named : hex_of id ≡ hex_of (oid object.kind object.body)
    text : v ≡ Some (object_text object)

  new_object : (s : Names) (id : List ℕ) → IsRoot s → (v : Option (List ℕ)) → IsPut (repo_of root) objects (object_place (repo_of s) id) v → IsNew s id v
  new_object s id apart v put =
      let split = split_once s root (object_names (hex_of id)) (object_names (hex_of (oid put.object.kind put.object.body))) apart outside put.place in
      record { object = put.object; has = put.has; same = split.0; named = digits_once (hex_of id) (hex_of (oid put.object.kind put.object.body)) split.1; text = put.text }

  pub put_objects : (s : Names) → IsRoot s → HasSoundObjects (repo_of s) g → HasSoundObjects (repo_of s) x
  put_objects s apart sound = record {
    named = λ id is there. elim (seen (object_place (repo_of s) id) (object_there s id apart)) [
      | inl same ↦ subst (λ (o : Option Object). IsSome o) (sym (ap (object_of id) same)) (sound.named id is (ap is_some (sym same) ∙ there))
      | inr put ↦
          let new = new_object s id apart (file_at x (object_place (repo_of s) id)) put in
          let own = oid_is_id new.object.kind new.object.body in
          let one : id ≡ oid new.object.kind new.object.body = hex_of-injective id (oid new.object.kind new.object.body) is.bytes own.bytes new.named in
          ap is_some (is_held x (repo_of s) id new.object.kind new.object.body (record { stands = new.text; named = sym one }))
    ];
    parents = λ id fields commit. are_whole_stay (repo_of s) g x (put_holds s apart) fields.parents (
        elim (seen (object_place (repo_of s) id) (object_there s id apart)) [
          | inl same ↦ sound.parents id fields (record { body = commit.body; held = sym (ap (object_of id) same) ∙ commit.held; text = commit.text })
          | inr put ↦
              let new = new_object s id apart (file_at x (object_place (repo_of s) id)) put in
              let is = held_is x (repo_of s) id _ commit.held in
              let texts : Some (object_text new.object) ≡ Some (text_of_object CommitKind commit.body) = sym new.text ∙ is.stands in
              let parts = kind_once new.object.kind CommitKind new.object.body commit.body (cc texts) in
              subst (λ (r : Names). AreWhole (repo_of r) fields.parents g) (sym new.same)
              (can.parents new.object new.has parts.0 fields (subst (λ (body : List ℕ). IsCommitText body fields) (sym parts.1) commit.text))
        ]);
  }

  pub put_sound : Sound g → Sound x
  put_sound sound s is =
      let at = sound s (no_new_dataset s is) in
      grown s g x (put_rest s at.outside) (put_holds s at.outside) (put_objects s at.outside at.objects) at

-- any of the objects keep a ground sound
pub some_intact : (root : Names) (objects : List NewObject) (g x : Ground) → IsRoot root → CanPut (repo_of root) objects g → HasSome (repo_of root) objects g x → Sound g → (b : Ground) → IsIntact g b x
some_intact root objects g x outside can some sound b = record {
  sound = put_sound root objects g x outside can some sound;
  heads = inl (put_heads root objects g x outside can some);
  held = put_holds root objects g x outside can some;
  contents = put_contents root objects g x outside can some;
}

pub objects_keep : (root : Names) (objects : List NewObject) (g : Ground) → IsRoot root → CanPut (repo_of root) objects g → KeepsSound (objects_round (repo_of root) objects) g
objects_keep root objects g outside can sound x lies =
    some_intact root objects g x outside can (some_of (repo_of root) objects g x lies) sound (with_objects (repo_of root) objects g)

-- the ground after the round
pub after_some : (repo : Names) (objects : List NewObject) (g : Ground) → HasSome repo objects g (with_objects repo objects g)
after_some repo objects g = some_of repo objects g (with_objects repo objects g) (lies_watched g (with_objects repo objects g) (with_objects repo objects g) (λ q watched. inr refl))

-- a listed object's place has the text of a listed object
put_there : (repo : Names) (g : Ground) (objects : List NewObject) (o : NewObject) → Has objects o → IsPut repo objects (place_in repo o) (file_at (with_objects repo objects g) (place_in repo o))
put_there repo g [] o has = absurd has
put_there repo g (p ∷ os) o has =
    let before = with_objects repo os g in
    elim (cases_place (place_in repo o) (place_in repo p)) [
      | inl is ↦ record { object = p; has = inl refl; place = is; text = file_at-insert_same before (place_in repo p) (object_text p) (place_in repo o) is }
      | inr other ↦ elim has [
        | inl e ↦ absurd (other (ap (place_in repo) (sym e)))
        | inr rest ↦
            let put = put_there repo g os o rest in
            record { object = put.object; has = inr put.has; place = put.place; text = file_at-insert_other before (place_in repo p) (object_text p) (place_in repo o) other ∙ put.text }
      ]
    ]

pub put_held : (repo : Names) (objects : List NewObject) (g : Ground) → NoneCollide repo objects → (o : NewObject) → Has objects o
    → IsHeld (with_objects repo objects g) repo (oid o.kind o.body) o.kind o.body
put_held repo objects g own o has =
    let put = put_there repo g objects o has in
    let same : put.object ≡ o = own put.object o put.has has (sym put.place) in
    record { stands = put.text ∙ ap (λ (z : NewObject). Some (object_text z)) same; named = refl }
