use Rattle.std.proofs.Common.{refl}
use Rattle.recursive_save.specs.First.{default_person, default_name, default_email}
use Rattle.recursive_save.proofs.FirstFacts.{user_is_person}
use Rattle.recursive_save.proofs.first.person.Goals as goal

pub invariant_of-result : goal.invariant_of-result
invariant_of-result c = record { valid = rw (c.in_ok-text.ensures, c.in_ok-text-2.ensures) user_is_person }

pub returns : goal.returns
unfolding default_person default_name default_email
returns c = rw (c.in_ok-text.ensures, c.in_ok-text-2.ensures) refl
