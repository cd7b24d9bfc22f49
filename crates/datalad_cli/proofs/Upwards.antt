-- The readings of the search for a dataset's root.
use Rattle.std.proofs.Common.{◌≡◌, ◌++◌, ◌∷◌, [], ℕ, Bool, true, false, List, Option, Some, None, Result, Ok, Err, length, refl, sym, ap, ◌∙◌}
use Rattle.std.specs.Prelude.{is_some, option_map}
use Rattle.places.specs.All.{Names, Ground, file_at}
use Rattle.faults.specs.declared.faults.Trouble.{Trouble}
use Rattle.faults.specs.declared.faults.Fault.TheVariants.{NotADataset}
use Rattle.faults.specs.declared.faults.Trouble.TheVariants.{Refused, Device, NoMemory}
use Rattle.file_store.specs.All.{Drive, present}
use Rattle.acts.specs.All.{NoFault, ReadAs, Reads}
use Rattle.acts.proofs.Reading.{read_after, read_gives, read_refuses}
use Rattle.datalad_cli.specs.Finding.{head_within, is_root, root_at, stands_within}
use Rattle.datalad_cli.proofs.Nearest.{here, nowhere, upwards}

-- ONE PLACE
mapped : (o : Option (List ℕ)) → is_some (option_map (λ (bytes : List ℕ). length bytes) o) ≡ is_some o
mapped None = refl
mapped (Some bytes) = refl

pub no_root : (g : Ground) (place : Names) → head_within place ≡ None → false ≡ is_root g place
no_root g place none = ap (λ (o : Option Names). stands_within g o) (sym none)

pub root_is : (g : Ground) (place head : Names) (size : Option ℕ) → head_within place ≡ Some head → size ≡ option_map (λ (bytes : List ℕ). length bytes) (file_at g head) → is_some size ≡ is_root g place
root_is g place head size at is = ap (λ (o : Option ℕ). is_some o) is ∙ mapped (file_at g head) ∙ ap (λ (o : Option Names). stands_within g o) (sym at)

-- FROM A PLACE UPWARDS
abbrev pub TellsRoot : Bool → Names → Drive → Drive → Result Bool Trouble → Type 0
TellsRoot tells place old new r = Reads NoFault tells (λ g answer. answer ≡ is_root g place) (λ g fault. NoFault fault) old new r

abbrev pub FindsRoot : Bool → Names → Drive → Drive → Result (Option Names) Trouble → Type 0
FindsRoot tells place old new r = Reads NoFault tells (λ g root. root ≡ root_at place g) (λ g fault. NoFault fault) old new r

higher_answer : (place up : Names) (g : Ground) → root_at place g ≡ root_at up g → (r : Result (Option Names) Trouble)
    → ReadAs (λ h root. root ≡ root_at up h) (λ h fault. NoFault fault) g r → ReadAs (λ h root. root ≡ root_at place h) (λ h fault. NoFault fault) g r
higher_answer place up g e (Ok root) h = h ∙ sym e
higher_answer place up g e (Err (Refused fault)) h = h
higher_answer place up g e (Err Device) h = h
higher_answer place up g e (Err NoMemory) h = h

module _ (tells : Bool) (place : Names) (old mid : Drive) (b : Bool) (first : TellsRoot tells place old mid (Ok b)) where
  pub found_here : b ≡ true → FindsRoot tells place old mid (Ok (Some place))
  found_here is = read_gives first.later (λ t. ((first.told t).same, sym (here (present old) place (sym (first.told t).answer ∙ is))))

  pub found_nowhere : b ≡ false → place ≡ [] → FindsRoot tells place old mid (Ok None)
  found_nowhere is top = read_gives first.later (λ t. ((first.told t).same, sym (nowhere (present old) place top (sym (first.told t).answer ∙ is))))

  pub found_above : b ≡ false → (up : Names) (name : List ℕ) → place ≡ up ++ name ∷ [] → (new : Drive) (r : Result (Option Names) Trouble) → FindsRoot tells up mid new r → FindsRoot tells place old new r
  found_above is up name at new r more =
      let all : FindsRoot tells up old new r = read_after first.later (λ t. (first.told t).same) more in
      record {
        later = all.later;
        cause = all.cause;
        told = λ t.
            let was = all.told t in
            record { same = was.same; answer = higher_answer place up (present old) (upwards (present old) place up name at (sym (first.told t).answer ∙ is)) r was.answer };
      }

-- THE SEARCH
module _ (tells : Bool) (cwd start : Names) (old new : Drive) (o : Option Names) (same : start ≡ cwd) (found : FindsRoot tells start old new (Ok o)) where
  abbrev Finds : Result Names Trouble → Type 0
  Finds r = Reads (λ fault. fault ≡ NotADataset cwd) tells (λ g root. root_at cwd g ≡ Some root) (λ g fault. (root_at cwd g ≡ None) × (fault ≡ NotADataset cwd)) old new r

  is_at : (g : Ground) (p : Option Names) → o ≡ root_at start g → o ≡ p → root_at cwd g ≡ p
  is_at g p answer is = ap (λ (n : Names). root_at n g) (sym same) ∙ sym answer ∙ is

  pub finds : (root : Names) → o ≡ Some root → Finds (Ok root)
  finds root is = read_gives found.later (λ t. ((found.told t).same, is_at (present old) (Some root) (found.told t).answer is))

  pub finds_none : (place : Names) → place ≡ cwd → o ≡ None → Finds (Err (Refused (NotADataset place)))
  finds_none place at is =
      let fault : NotADataset place ≡ NotADataset cwd = ap (λ (n : Names). NotADataset n) at in
      read_refuses fault found.later (λ t. ((found.told t).same, (is_at (present old) None (found.told t).answer is, fault)))
