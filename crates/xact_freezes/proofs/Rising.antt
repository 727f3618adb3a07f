-- The oldest xmin that a trim goes by was so since an earlier moment.
use Rattle.std.proofs.Common.{◌≡◌, ℕ, ◌+◌, List, length, length-append, take_all, sym, ap, ◌∙◌, arith}
use Rattle.notes.specs.Lists.{Grows}
use Rattle.tx_events.specs.Horizon.{oldest_xmin}
use Rattle.tx_events.specs.declared.event.Event.{Event}
use Rattle.tx_core.specs.declared.entry.Entry.{Entry}
use Rattle.tx_core.specs.declared.entry.Start.{Start}
use Rattle.tx_core.specs.Entries.{history}
use Rattle.tx_core.proofs.Lasting.{history_grows}
use Rattle.tx_core.proofs.Rising.{taken_begins}
use Rattle.xact_freezes.specs.Trims.{WasOldestXminSince}

-- what was the oldest xmin at some moment was so since each earlier one, and stays so
pub xmin_since : (start : Start) (before mid lists : List (List Entry)) (xmin : ℕ) → Grows before mid → Grows mid lists → xmin ≡ oldest_xmin start.base.next (history mid) → WasOldestXminSince start before lists xmin
xmin_since start before mid lists xmin f g is =
    let h : List Event = history mid in
    let b = history_grows before mid f in
    let long : length (history before) + length b.0 ≡ length h = sym (length-append (history before) b.0) ∙ ap (λ (t : List Event). length t) b.1 in
    let t = taken_begins h (history lists) (length h) (history_grows mid lists g) (omega arith) in
    (length h, omega (arith, long), t.0, is ∙ ap (oldest_xmin start.base.next) (sym (t.1 ∙ take_all (length h) h (omega arith))))
