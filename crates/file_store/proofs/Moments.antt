-- How a run of calls goes on.
use Rattle.std.proofs.Common.{◌≡◌, inl, inr, sym, subst}
use Rattle.file_store.specs.Disk.{Disk, History, next, Since, begun, later, MayStep}

-- at the last moment
pub last : {P : Disk → Type 0} {old new : History} → Since P old new → P new.latest
last (begun p) = p
last (later s p) = p

pub weaken : {P Q : Disk → Type 0} {old new : History} → ((d : Disk) → P d → Q d) → Since P old new → Since Q old new
weaken f (begun p) = begun (f _ p)
weaken f (later s p) = later (weaken f s) (f _ p)

-- one run after another
pub join : {P : Disk → Type 0} {old mid new : History} → Since P old mid → Since P mid new → Since P old new
join s (begun p) = s
join s (later t p) = later (join s t) p

-- a call that changed nothing
pub stays : {P : Disk → Type 0} {old mid new : History} → Since P old mid → new ≡ mid → Since P old new
stays {P} {old} s is = subst (λ (h : History). Since P old h) (sym is) s

-- a call that made this disk
pub steps : {P : Disk → Type 0} {old mid new : History} {d : Disk} → Since P old mid → new ≡ next mid d → P d → Since P old new
steps {P} {old} s is p = subst (λ (h : History). Since P old h) (sym is) (later s p)

-- a call of which it isn't known how far it came
pub goes_on : {P : Disk → Type 0} (S : Disk → Disk → Type 0) {old mid new : History} → Since P old mid → MayStep S mid new → ((d : Disk) → S mid.latest d → P d) → Since P old new
goes_on S s (inl is) f = stays s is
goes_on S s (inr step) f = steps s step.2 (f step.0 step.1)

-- a call that keeps what held, as far as it came
pub carries : {P : Disk → Type 0} (S : Disk → Disk → Type 0) → ((d e : Disk) → P d → S d e → P e) → {old mid new : History} → Since P old mid → MayStep S mid new → Since P old new
carries S f {old} {mid} s step = goes_on S s step (λ d is. f mid.latest d (last s) is)
