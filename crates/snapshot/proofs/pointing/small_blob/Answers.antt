use Rattle.std.proofs.Common.{◌≡◌, ◌≤◌, ◌<◌, ◌∙◌, Bool, length, ℕ, Option, Some, Vec, Ok, false, refl, sym, subst, rules}
use Rattle.std.specs.declared.alloc.Global.{Global}
use denote.Enum.Bare.{differs_true, differs_false}
use Rattle.places.specs.All.{Names, text_of}
use Rattle.git_objects.specs.declared.objects.ObjKind.{ObjKind}
use Rattle.git_objects.specs.declared.objects.ObjKind.TheVariants.{Blob, Tree, Commit, Tag}
use Rattle.git_objects.specs.contracts.ObjKind.{the_type}
use Rattle.object_store.specs.All.{is_kind}
use Rattle.repository.specs.All.{object_place}
use Rattle.acts.proofs.Reading.{read_exits}
use Rattle.object_store.proofs.Gets.{Gets}
use Rattle.snapshot.proofs.Blobs.{LongReads, short_file, small_missing, small_is, small_long, small_no_places, small_other, small_stops}
use Rattle.snapshot.proofs.pointing.small_blob.Goals as goal

other_kind : (kind : ObjKind) → (kind ≡ Blob → ⊥) → is_kind kind Blob ≡ false
other_kind Blob other = absurd (other refl)
other_kind Tree other = refl
other_kind Commit other = refl
other_kind Tag other = refl

pub returns-then-as_str-gt-OBJECT_LIMIT : goal.returns-then-as_str-gt-OBJECT_LIMIT
returns-then-as_str-gt-OBJECT_LIMIT g c =
    let d = g.F.Files.drive c.args.files.now in
    let long : 4046 < length (text_of c.args.repo.now) = search rules in
    small_no_places g.F.Files.tells c.args.repo.now c.args.id.now.0 d d c.in_ok-repo_too_large.field-0 refl long c.in_ok-repo_too_large.ensures (λ t. refl)

pub returns-then-branch : goal.returns-then-branch
returns-then-branch g c =
    let tells = g.F.Files.tells in
    let repo = c.args.repo.now in
    let id = c.args.id.now.0 in
    let old = g.F.Files.drive c.args.files.now in
    let mid = g.F.Files.drive c.is_long.new.files in
    let fits : length (text_of repo) ≤ 4046 = search rules in
    let longs = subst (λ (p : Names). LongReads tells p old mid (Ok c.in_ok-is_long.field-0)) c.in_ok-place.ensures c.in_ok-is_long.ensures in
    small_long tells repo id old mid fits (subst (λ (b : Bool). LongReads tells (object_place repo id) old mid (Ok b)) c.if-branch.true longs)

pub returns-in_err-kind : goal.returns-in_err-kind
returns-in_err-kind g c =
    let tells = g.F.Files.tells in
    let repo = c.args.repo.now in
    let id = c.args.id.now.0 in
    let old = g.F.Files.drive c.args.files.now in
    let mid = g.F.Files.drive c.is_long.new.files in
    let new = g.F.Files.drive c.get.new.files in
    let fits : length (text_of repo) ≤ 4046 = search rules in
    let longs = short_file tells repo id old mid c.in_ok-place.place c.in_ok-is_long.field-0 c.in_ok-place.ensures c.if-branch.false c.in_ok-is_long.ensures in
    read_exits c.from_residual-in_err-kind.ensures.1 (small_stops tells repo id old new fits mid longs c.in_err-kind.field-0.0 c.in_err-kind.ensures.reads)

pub returns-in_default : goal.returns-in_default
returns-in_default g c =
    let tells = g.F.Files.tells in
    let repo = c.args.repo.now in
    let id = c.args.id.now.0 in
    let old = g.F.Files.drive c.args.files.now in
    let mid = g.F.Files.drive c.is_long.new.files in
    let new = g.F.Files.drive c.get.new.files in
    let fits : length (text_of repo) ≤ 4046 = search rules in
    let longs = short_file tells repo id old mid c.in_ok-place.place c.in_ok-is_long.field-0 c.in_ok-place.ensures c.if-branch.false c.in_ok-is_long.ensures in
    small_missing tells repo id old new fits mid longs (subst (λ (o : Option (ObjKind × Vec ℕ Global)). Gets tells repo id mid new (Ok o)) c.in_default.is c.in_ok-kind.ensures.reads)

pub returns-then-ne : goal.returns-then-ne
returns-then-ne g c =
    let tells = g.F.Files.tells in
    let repo = c.args.repo.now in
    let id = c.args.id.now.0 in
    let old = g.F.Files.drive c.args.files.now in
    let mid = g.F.Files.drive c.is_long.new.files in
    let new = g.F.Files.drive c.get.new.files in
    let fits : length (text_of repo) ≤ 4046 = search rules in
    let longs = short_file tells repo id old mid c.in_ok-place.place c.in_ok-is_long.field-0 c.in_ok-place.ensures c.if-branch.false c.in_ok-is_long.ensures in
    let other : is_kind c.in-Some.kind Blob ≡ false = other_kind c.in-Some.kind (differs_true the_type c.in-Some.kind Blob (sym c.ne.ensures ∙ c.if-ne.true)) in
    small_other tells repo id old new fits mid longs c.in-Some.kind c.in-Some.body other (subst (λ (o : Option (ObjKind × Vec ℕ Global)). Gets tells repo id mid new (Ok o)) c.in-Some.is c.in_ok-kind.ensures.reads)

pub returns : goal.returns
returns g c =
    let tells = g.F.Files.tells in
    let repo = c.args.repo.now in
    let id = c.args.id.now.0 in
    let old = g.F.Files.drive c.args.files.now in
    let mid = g.F.Files.drive c.is_long.new.files in
    let new = g.F.Files.drive c.get.new.files in
    let fits : length (text_of repo) ≤ 4046 = search rules in
    let longs = short_file tells repo id old mid c.in_ok-place.place c.in_ok-is_long.field-0 c.in_ok-place.ensures c.if-branch.false c.in_ok-is_long.ensures in
    let blob : c.in-Some.kind ≡ Blob = differs_false the_type (search rules) c.in-Some.kind Blob (sym c.ne.ensures ∙ c.if-ne.false) in
    let gets = subst (λ (o : Option (ObjKind × Vec ℕ Global)). Gets tells repo id mid new (Ok o)) c.in-Some.is c.in_ok-kind.ensures.reads in
    small_is tells repo id old new fits mid longs c.in-Some.body (subst (λ (k : ObjKind). Gets tells repo id mid new (Ok (Some (k, c.in-Some.body)))) blob gets)
