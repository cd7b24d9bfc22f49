-- The words of this crate, for those above.
pub use Rattle.acts.specs.Acts.{Act, Breaks, Changes, Ending, Event, Gives, Refuses, Step, Tells}
pub use Rattle.acts.specs.Acts.{cut, each, ending_of, follow, go_on, is_still, last_of, lines_in}
pub use Rattle.acts.specs.Acts.{lines_of, none_loose, rounds_in, rounds_of, still}
unfoldable pub use Rattle.acts.specs.Acts.{asks, bind, fold, gives, refuses, says, unless}
pub use Rattle.acts.specs.Ends.{Acts, ActsAs, ActsQuietly, EndsAs, EndsRefused, Gave, Goes}
pub use Rattle.acts.specs.Ends.{HasCause, HasCome, IsFirm, IsHalt, Moments, NoFault, Reaches, Rests}
pub use Rattle.acts.specs.Ends.{WasHalted, WasRefused, is_device, seen}
pub use Rattle.acts.specs.Files.{CanReplace, MayBlock, makes, put_act, whole_round}
unfoldable pub use Rattle.acts.specs.Files.{puts, removes}
pub use Rattle.acts.specs.Reads.{HasRead, ReadAs, Reads}
pub use Rattle.acts.specs.Remains.{IsFixed, IsSame, NewWithAll, Nothing, OldOrNew}
