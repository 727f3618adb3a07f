-- While a bank's pages are put on disk a crash leaves at each moment what follows its list.
use Rattle.std.proofs.Common.{ℕ, ◌+◌, IsTrue, List, arith, refl}
use Rattle.disk_core.specs.Pages.{Pages}
use Rattle.disk_core.specs.Moments.{leaves_weaker}
use Rattle.disk_core.specs.declared.page_disk.PageDisk as disks
use Rattle.notes.specs.Lists.{at}
use Rattle.store_pages.specs.Layouts.{word_place_of}
use Rattle.store_pages.specs.declared.page_rule.PageRule as rules
use Rattle.slru_bank.specs.declared.bank.SlruBank.{SlruBank}
use Rattle.slru_bank.specs.Calls.{CrashKeeps, cutoff_of, last_page, pages_of, volume_of}
use Rattle.tx_events.specs.Base.{IsBase}
use Rattle.tx_core.specs.declared.entry.Entry.{Entry}
use Rattle.tx_core.specs.declared.entry.Start.{Start}
use Rattle.tx_core.specs.CleanMultis.{CleanMembers, CleanOffsets}
use Rattle.tx_core.specs.EngineInvariant.{EngineInvariant}
use Rattle.tx_core.specs.Entries.{AreFewIds}
use Rattle.tx_core.specs.Locks.{members_lock, offsets_lock, xact_lock}
use Rattle.tx_core.specs.MultiEntries.{AreFewMultis}
use Rattle.tx_core.specs.StoredBytes.{HasZeroTails, slot_place_of}
use Rattle.tx_core.proofs.Nearness.{made_near}
use Rattle.recoverable.specs.Whole.{MembersLeft, OffsetsLeft, StatesLeft}
use Rattle.bank_follows.specs.Holding.{XactHolds}
use Rattle.bank_follows.specs.Moments.{Throughout}
use Rattle.bank_follows.specs.Near.{AreMadeNear}
use Rattle.bank_follows.specs.Stores.{IsMemberAt, IsOffsetAt, member_cells, offset_cells, xact_cells}
use Rattle.bank_follows.proofs.Moments.{member_moments, offset_moments, xact_moments}
use Rattle.bank_follows.proofs.Near.{near_on_made}
use Rattle.bank_follows.proofs.Standing.{banks_stand}
use Rattle.bank_follows.proofs.Stores.{images_follow}
use Rattle.bank_follows.proofs.Tails.{keeps_tails}
use Rattle.engine_parts.specs.BankCourse.{IsMemberOn, IsOffsetOn, MembersCame, OffsetsCame}
use Rattle.engine_parts.specs.Course.{HasCourse}
use Rattle.engine_parts.specs.Shelves.{member_shelf, offset_shelf}
use Rattle.bank_follows.proofs.Followed as states
use Rattle.bank_follows.proofs.MembersTails.{tails_hold}
use Rattle.bank_follows.proofs.MultisFollowed as multis
use Rattle.bank_follows.proofs.SetsInRoom.{offsets_in_room, slots_in_room}

module _ {P O : Type 0} (g : disks.Ghosts P) {r : rules.Ghosts O} (told : IsTrue g.tells) (only_now : (d : P) (c : Pages) → g.left_at d (g.moment d) c → g.images d c) (start : Start) (lists : List (List Entry)) (kept : EngineInvariant start lists) (bank : ℕ) (found left : SlruBank P O g r) (crash : CrashKeeps found left) where
  -- at each moment from the one to the other
  abbrev Leaves : (Pages → Type 0) → Type 0
  Leaves F = Throughout g.images g.moment g.left_at F (volume_of found) (volume_of left)

  weaker : (F G : Pages → Type 0) → ((c : Pages) → F c → G c) → Leaves F → Leaves G
  weaker F G less t = record {
    now = λ c left. less c (t.now c left);
    each = leaves_weaker g.moment g.left_at (volume_of found) (volume_of left) F G t.each less;
  }

  pub states_flushed : AreFewIds lists → HasCourse start bank found (at lists (xact_lock bank)) → Leaves (StatesLeft start bank (at lists (xact_lock bank)))
  states_flushed few course =
      let es : List Entry = at lists (xact_lock bank) in
      let h : XactHolds g.images g.moment g.left_at start bank es (pages_of found) (cutoff_of found) (last_page found) (volume_of found) = states.holds g start bank told only_now course.0 found es course.1 in
      let near : AreMadeNear (xact_cells start h.shown) es = λ by page among.
      let m = ((made_near start lists bank kept).xact few).made by page among in let to = m.to in (m.number, m.from, omega arith, m.on) in
      let was = h.stands near in
      weaker _ (StatesLeft start bank es) (λ c is. record { shown = h.shown; clean = h.clean; follows = (images_follow start bank es c).0 h.shown is })
      ((xact_moments g.images g.moment g.left_at start h.shown bank).flushes es (pages_of found) (volume_of found) (volume_of left) was.shows.map (only_now (volume_of found)) was.shows.left (crash told))

  pub offsets_flushed : IsBase start.base → AreFewMultis lists → OffsetsCame start bank found (at lists (offsets_lock bank)) → Leaves (OffsetsLeft start bank (at lists (offsets_lock bank)))
  offsets_flushed base few course =
      let es : List Entry = at lists (offsets_lock bank) in
      let h = multis.holds g told only_now (offset_shelf start) 4 (λ x i. word_place_of x + i) (IsOffsetOn start bank) (IsOffsetAt start bank) (λ x asked. record { near = asked.near; on = asked.on }) (CleanOffsets start) (λ m. Unit {0})
      (λ by page. refl) (λ by. refl) (banks_stand g.images g.moment g.left_at start bank).offsets (λ shown. offset_moments g.images g.moment g.left_at start shown bank) (λ shown es x near made. ((near_on_made start es).offsets shown x near made).to)
      course.0 found es (λ e among. offsets_in_room start lists (offsets_lock bank) kept base e among) course.1 in
      let near : AreMadeNear (offset_cells start h.shown) es = λ by page among.
      let m = ((made_near start lists bank kept).offsets few).made by page among in let to = m.to in (m.number, m.from, omega arith, m.on) in
      let was = h.stands near in
      weaker _ (OffsetsLeft start bank es) (λ c is. record { shown = h.shown; clean = h.clean; follows = (images_follow start bank es c).1 h.shown is })
      ((offset_moments g.images g.moment g.left_at start h.shown bank).flushes es (pages_of found) (volume_of found) (volume_of left) was.shows.map (only_now (volume_of found)) was.shows.left (crash told))

  pub members_flushed : IsBase start.base → AreFewMultis lists → MembersCame start bank found (at lists (members_lock bank)) → Leaves (MembersLeft start bank (at lists (members_lock bank)))
  members_flushed base few course =
      let es : List Entry = at lists (members_lock bank) in
      let h = multis.holds g told only_now (member_shelf start) 5 slot_place_of (IsMemberOn start bank) (IsMemberAt start bank) (λ x asked. record { near = asked.near; on = asked.on }) (CleanMembers start) HasZeroTails
      (λ by page. refl) (λ by. refl) (banks_stand g.images g.moment g.left_at start bank).members (λ shown. member_moments g.images g.moment g.left_at start shown bank) (λ shown es x near made. ((near_on_made start es).members shown x near made).to)
      course.0 found es (λ e among. slots_in_room start lists (members_lock bank) kept base e among) course.1 in
      let near : AreMadeNear (member_cells start h.shown) es = λ by page among.
      let m = ((made_near start lists bank kept).members few).made by page among in let to = m.to in (m.number, m.from, omega arith, m.on) in
      let was = h.stands near in
      let t = (member_moments g.images g.moment g.left_at start h.shown bank).flushes es (pages_of found) (volume_of found) (volume_of left) was.shows.map (only_now (volume_of found)) was.shows.left (crash told) in
      let tails = tails_hold g told only_now start bank course.0 found es course.1 in
      let zeros = (keeps_tails g.images g.moment g.left_at).calls (pages_of found) (volume_of found) (volume_of left) tails.map (only_now (volume_of found)) tails.left (crash told) in
      record {
        now = λ c here. record { shown = h.shown; clean = h.clean; follows = (images_follow start bank es c).2 h.shown (t.now c here); tails = zeros.now c here };
        each = record {
          later = t.each.later;
          each = λ m c from to here. record { shown = h.shown; clean = h.clean; follows = (images_follow start bank es c).2 h.shown (t.each.each m c from to here); tails = zeros.each.each m c from to here };
          kept = t.each.kept;
          no_more = t.each.no_more;
        };
      }
