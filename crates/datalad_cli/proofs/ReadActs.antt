-- A command that only reads a dataset: its act does nothing.
use Rattle.std.proofs.Common.{◌≡◌, inr, Bool, IsTrue, ℕ, List, Option, Some, None, Result, Ok, Err, refl, sym, ◌∙◌, ap, subst}
use Rattle.places.specs.All.{Names, Ground}
use Rattle.file_store.specs.All.{Drive, present}
use Rattle.faults.specs.declared.lines.Line.{Line}
use Rattle.faults.specs.declared.faults.Fault.{Fault}
use Rattle.faults.specs.declared.faults.Trouble.{Trouble}
use Rattle.acts.specs.All.{Act, ActsAs, Ending, EndsRefused, Reads, Refuses, still}
use Rattle.acts.proofs.As.{as_unread}
use Rattle.datalad_cli.specs.Commands.{Comes, IsActIn, IsFaultIn, IsReadAct, MayIn, ending_by}
use Rattle.datalad_cli.specs.Finding.{IsRootOf, Location, no_root, root_in}
use Rattle.datalad_cli.proofs.Acting.{as_gives}
use Rattle.datalad_cli.proofs.Nearest.{root_stands}
use Rattle.dataset.specs.All.{IsDataset, Sound}

-- whatever a reading comes to, its act does nothing
still_in : (ComesTo : Comes) (at : Location) (g : Ground) (o : Option Names) (act : Act (List ℕ)) → IsActIn at (IsReadAct ComesTo g) o act → (e : Ending (List ℕ)) × (act ≡ still e)
still_in ComesTo at g None act is = (Refuses (no_root at), is)
still_in ComesTo at g (Some root) act is = (ending_by is.0, is.2)

pub read_still : (ComesTo : Comes) (at : Location) (g : Ground) (act : Act (List ℕ)) → IsActIn at (IsReadAct ComesTo g) (root_in at g) act → (e : Ending (List ℕ)) × (act ≡ still e)
read_still ComesTo at g act is = still_in ComesTo at g (root_in at g) act is

-- and there is one at most, where the reading comes to one thing
abbrev pub IsOnce : Comes → Type 0
IsOnce ComesTo = (root : Names) (g : Ground) (one two : Result (List ℕ) Fault) → ComesTo root g one → ComesTo root g two → one ≡ two

one_in : (ComesTo : Comes) → IsOnce ComesTo → (at : Location) (g : Ground) (o : Option Names) (one two : Act (List ℕ)) → IsActIn at (IsReadAct ComesTo g) o one → IsActIn at (IsReadAct ComesTo g) o two → one ≡ two
one_in ComesTo single at g None one two is other = is ∙ sym other
one_in ComesTo single at g (Some root) one two is other =
    is.2 ∙ ap (λ (end : Result (List ℕ) Fault). still (ending_by end)) (single root g is.0 other.0 is.1 other.1) ∙ sym other.2

pub read_has_one : (ComesTo : Comes) → IsOnce ComesTo → (at : Location) (g : Ground) (one two : Act (List ℕ)) → IsActIn at (IsReadAct ComesTo g) (root_in at g) one → IsActIn at (IsReadAct ComesTo g) (root_in at g) two → one ≡ two
read_has_one ComesTo single at g one two is other = one_in ComesTo single at g (root_in at g) one two is other

-- ITS REFUSALS on a sound ground
ending_refused : (ComesTo : Comes) (root : Names) (g : Ground) (end : Result (List ℕ) Fault) (fault : Fault) (X : Type 0) → ComesTo root g end → EndsRefused (ending_by end) fault X → ComesTo root g (Err fault)
ending_refused ComesTo root g (Ok text) fault X ends h = absurd h
ending_refused ComesTo root g (Err own) fault X ends h = subst (λ (f : Fault). ComesTo root g (Err f)) h.0 ends

module _ (ComesTo : Comes) (IsSound : Names → Ground → Fault → Type 0) (so : (root : Names) (g : Ground) (fault : Fault) → Sound g → IsDataset root g → ComesTo root g (Err fault) → IsSound root g fault)
    (at : Location) (g : Ground) (fault : Fault) (X : Type 0) where
  refused_at : (o : Option Names) (act : Act (List ℕ)) → root_in at g ≡ o → IsActIn at (IsReadAct ComesTo g) o act → EndsRefused act.ending fault X → Sound g
      → IsFaultIn at (λ root. IsSound root g fault) o fault
  refused_at None act found is ends sound =
      let own = subst (λ (a : Act (List ℕ)). EndsRefused a.ending fault X) is ends in
      sym own.0
  refused_at (Some root) act found is ends sound =
      let own = subst (λ (a : Act (List ℕ)). EndsRefused a.ending fault X) is.2 ends in
      so root g fault sound (root_stands g at root found) (ending_refused ComesTo root g is.0 fault X is.1 own)

  pub read_refused : (act : Act (List ℕ)) → IsActIn at (IsReadAct ComesTo g) (root_in at g) act → EndsRefused act.ending fault X → Sound g → IsFaultIn at (λ root. IsSound root g fault) (root_in at g) fault
  read_refused act is ends sound = refused_at (root_in at g) act refl is ends sound

-- THE READING at the root that was found
module _ (ComesTo : Comes) (May : Names → Fault → Type 0) (at : Location) (root : Names) (there : IsRootOf at root) (tells : Bool) (l : List Line) (d0 d1 : Drive)
    (found : IsTrue tells → root_in at (present d0) ≡ Some root) where
  act_at : (g : Ground) (end : Result (List ℕ) Fault) → root_in at g ≡ Some root → ComesTo root g end → IsActIn at (IsReadAct ComesTo g) (root_in at g) (still (ending_by end))
  act_at g end is ends = subst (λ (o : Option Names). IsActIn at (IsReadAct ComesTo g) o (still (ending_by end))) (sym is) (end, ends, refl)

  abbrev Does : Result (List ℕ) Trouble → Type 0
  Does r = ActsAs (λ fault. MayIn at (λ root. May root fault) fault) tells (λ g act. IsActIn at (IsReadAct ComesTo g) (root_in at g) act) l l d0 d1 r

  pub read_gave : (text : List ℕ) → d1.faults ≡ d0.faults → (IsTrue tells → (d1.history ≡ d0.history) × ComesTo root (present d0) (Ok text)) → Does (Ok text)
  read_gave text stood is = as_gives stood (λ t. ((is t).0, act_at (present d0) (Ok text) (found t) (is t).1))

  pub read_failed : {A : Type 0} {IsAnswer : Ground → A → Type 0} (t : Trouble)
      → Reads {A = A} (λ fault. May root fault) tells IsAnswer (λ g fault. ComesTo root g (Err fault)) d0 d1 (Err t) → Does (Err t)
  read_failed t reads = as_unread t (λ fault may. inr (root, there, may)) (λ told fault no. act_at (present d0) (Err fault) (found told) no) reads
