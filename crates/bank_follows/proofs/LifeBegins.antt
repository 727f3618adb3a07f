-- What a recovery leaves follows the lists before their first entries.
use Rattle.std.proofs.Common.{List, [], ap, subst, sym, ℕ, ◌<◌, ◌∙◌}
use Rattle.std.specs.List.{slice_index}
use Rattle.tx_core.specs.declared.entry.Entry.{Entry}
use Rattle.tx_core.specs.declared.entry.Start.{Start}
use Rattle.tx_core.specs.Locks.{log_lock, members_lock, offsets_lock, xact_lock}
use Rattle.recoverable.specs.Fit.{KeptLog}
use Rattle.recoverable.specs.Laws.{LogOf}
use Rattle.recoverable.specs.Volumes.{Left, Restored}
use Rattle.recoverable.specs.Whole.{BeganClean, LogImage, MembersLeft, OffsetsLeft, StatesLeft}
use Rattle.recoverable.proofs.LogBegins.{log_begins}
use Rattle.bank_follows.specs.Restored.{HaveSameBytes, LifeBegins, pages_of, shown_on}
use Rattle.bank_follows.specs.Stores.{IsMemberAt, IsOffsetAt, IsXactAt, member_cells, offset_cells, xact_cells}
use Rattle.bank_follows.proofs.Begins.{first_shown, pages_show_what_they_hold}
use Rattle.bank_follows.proofs.Restored.{restored_begins}
use Rattle.bank_follows.proofs.Stores.{images_follow}

module _ (start : Start) (log : KeptLog) (from : ℕ) (left other : Left) (r : Restored start.banks log from start.base left) (same : HaveSameBytes start.banks left other) (clean : BeganClean start (shown_on start.banks left)) where
  states_left : (bank : ℕ) → bank < start.banks → StatesLeft start bank [] (other.xact bank)
  states_left bank inside = record {
    shown = (shown_on start.banks left).xact;
    clean = clean.xact;
    follows = (images_follow start bank [] (other.xact bank)).0 (shown_on start.banks left).xact
        (first_shown (xact_cells start (shown_on start.banks left).xact) (IsXactAt start bank) (pages_of left.xact bank) (other.xact bank) (pages_show_what_they_hold start bank (pages_of left.xact)).xact (λ q. same.xact bank q inside));
  }

  offsets_left : (bank : ℕ) → bank < start.banks → OffsetsLeft start bank [] (other.offsets bank)
  offsets_left bank inside = record {
    shown = (shown_on start.banks left).offsets;
    clean = clean.offsets;
    follows = (images_follow start bank [] (other.offsets bank)).1 (shown_on start.banks left).offsets
        (first_shown (offset_cells start (shown_on start.banks left).offsets) (IsOffsetAt start bank) (pages_of left.offsets bank) (other.offsets bank) (pages_show_what_they_hold start bank (pages_of left.offsets)).offsets (λ q. same.offsets bank q inside));
  }

  members_left : (bank : ℕ) → bank < start.banks → MembersLeft start bank [] (other.members bank)
  members_left bank inside = record {
    shown = (shown_on start.banks left).members;
    clean = clean.members;
    follows = (images_follow start bank [] (other.members bank)).2 (shown_on start.banks left).members
        (first_shown (member_cells start (shown_on start.banks left).members) (IsMemberAt start bank) (pages_of left.members bank) (other.members bank) (pages_show_what_they_hold start bank (pages_of left.members)).members (λ q. same.members bank q inside));
    tails = λ q i small past. ap (λ (l : List ℕ). slice_index l i) (same.members bank q inside) ∙ (r.members bank inside).tails q i small past;
  }

pub life_begins : LifeBegins
life_begins start lists log from left other empty on r fits same =
    let log_is = log_begins start log from other on.next r.may_begin on.list on.settled fits in
    let clean = restored_begins start log from left on r in (
      subst (λ (es : List Entry). LogOf start es log) (sym (empty log_lock)) log_is.0,
      record {
        log_image = subst (λ (es : List Entry). LogImage start es log other.log) (sym (empty log_lock)) log_is.1;
        states = λ bank inside. subst (λ (es : List Entry). StatesLeft start bank es (other.xact bank)) (sym (empty (xact_lock bank))) (states_left start log from left other r same clean bank inside);
        offsets_are = λ bank inside. subst (λ (es : List Entry). OffsetsLeft start bank es (other.offsets bank)) (sym (empty (offsets_lock bank))) (offsets_left start log from left other r same clean bank inside);
        members_are = λ bank inside. subst (λ (es : List Entry). MembersLeft start bank es (other.members bank)) (sym (empty (members_lock bank))) (members_left start log from left other r same clean bank inside);
      },
    )
