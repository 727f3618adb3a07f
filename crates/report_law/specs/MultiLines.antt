-- The events and the replies of the commands on multixacts.
pub use Rattle.life_law.specs.MultiLines.{AreGiven, ArePinned, ArePinnedNear, AreRaised, AreVerdicts, HasMembers, HasMultiEvents, IsGenOf, IsHeldBack, IsMemberOf, IsMemberStop, IsMemberVerdict, IsMultiBackward, IsMultiFuture, IsMultiStop, IsMultiTooOld, IsMultiWarned, IsNotGiven, IsNotYet, IsOldMember, IsPinnedOrNext, IsTold, IsUngiven, MayCarry, may_have_given, of_records}
