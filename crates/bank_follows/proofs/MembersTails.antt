-- The bytes behind the last slot of each page of members stay 0, by the bank's course.
use Rattle.std.proofs.Common.{ℕ, zero, suc, Bool, true, false, MatchBool, ◌∙◌, ap, List, IsTrue, subst, sym, ⊎_elim}
use Rattle.std.specs.List.{slice_index}
use Rattle.disk_core.specs.Pages.{Pages, zero_page}
use Rattle.disk_core.specs.declared.page_disk.PageDisk as disks
use Rattle.store_pages.specs.declared.page_rule.PageRule as rules
use Rattle.slru_bank.specs.Bank.{PutsPage}
use Rattle.slru_bank.specs.Crash.{SameMap}
use Rattle.slru_bank.specs.declared.bank.SlruBank.{SlruBank}
use Rattle.slru_bank.specs.Calls.{CrashKeeps, pages_of, volume_of}
use Rattle.tx_core.specs.declared.entry.Entry.{Entry}
use Rattle.tx_core.specs.declared.entry.Start.{Start}
use Rattle.tx_core.specs.CleanMultis.{CleanMembers}
use Rattle.tx_core.specs.StoredBytes.{HasZeroTails}
use Rattle.recoverable.specs.Bytes.{ImageHasZeroTails}
use Rattle.bank_follows.specs.Tails.{KeepsTails}
use Rattle.bank_follows.proofs.Tails.{keeps_tails}
use Rattle.engine_parts.specs.BankCourse.{CameTo, CutBefore, IsMemberOn, IsOpenedOn, LookedAt, MadePage, NotedOnly, SetThem, StepsTo, SyncedAll, member_rack}

module _ {P : Type 0} (g : disks.Ghosts P) (told : IsTrue g.tells) (only_now : (d : P) (c : Pages) → g.left_at d (g.moment d) c → g.images d c) (start : Start) (bank : ℕ) where
  stays : KeepsTails g.images g.moment g.left_at
  stays = keeps_tails g.images g.moment g.left_at

  page_made : (b : Bool) (page : ℕ) (old new : ℕ → List ℕ) → MatchBool b (PutsPage page zero_page old new) (SameMap old new) → HasZeroTails old → HasZeroTails new
  page_made true page old new makes tails = (stays.map old new).makes page makes tails
  page_made false page old new same tails = (stays.map old new).same same tails

  module _ {O : Type 0} {r : rules.Ghosts O} where
    -- the map's and each image's
    pub record TailsHold (store : SlruBank P O g r) : Type 0 where
      pub map : HasZeroTails (pages_of store)
      pub left : (c : Pages) → g.images (volume_of store) c → ImageHasZeroTails c

    -- a call that keeps them in the map
    by_call : (old new : SlruBank P O g r) → TailsHold old → HasZeroTails (pages_of new) → CrashKeeps old new → TailsHold new
    by_call old new was map crash = record {
      map = map;
      left = (stays.calls (pages_of old) (volume_of old) (volume_of new) was.map (only_now (volume_of old)) was.left (crash told)).now;
    }

    opened : (store : SlruBank P O g r) → IsOpenedOn (member_rack start) (IsMemberOn start bank) (CleanMembers start) HasZeroTails store → TailsHold store
    opened store o = record {
      map = o.tails;
      left = λ c left q i small past. ap (λ (bytes : List ℕ). slice_index bytes i) (o.durable c left q) ∙ o.tails q i small past;
    }

    looked : (old new : SlruBank P O g r) (before es : List Entry) → TailsHold old → LookedAt (member_rack start) (IsMemberOn start bank) old new before es → TailsHold new
    looked old new before es was k = by_call old new was ((stays.map (pages_of old) (pages_of new)).same k.pages was.map) k.crash

    noted : (old new : SlruBank P O g r) (before es : List Entry) → TailsHold old → NotedOnly (member_rack start) (IsMemberOn start bank) old new before es → TailsHold new
    noted old new before es was k = subst (λ (z : SlruBank P O g r). TailsHold z) (sym k.same) was

    made : (old new : SlruBank P O g r) (before es : List Entry) → TailsHold old → MadePage (member_rack start) (IsMemberOn start bank) old new before es → TailsHold new
    made old new before es was k = by_call old new was (page_made _ _ (pages_of old) (pages_of new) k.pages was.map) k.crash

    set : (old new : SlruBank P O g r) (before es : List Entry) → TailsHold old → SetThem (member_rack start) (IsMemberOn start bank) HasZeroTails old new before es → TailsHold new
    set old new before es was k = by_call old new was (k.tails was.map) k.crash

    cut : (old new : SlruBank P O g r) (before es : List Entry) → TailsHold old → CutBefore (member_rack start) (IsMemberOn start bank) old new before es → TailsHold new
    cut old new before es was k = record {
      map = (stays.map (pages_of old) (pages_of new)).drops _ k.pages was.map;
      left = (stays.removes _ (pages_of old) (volume_of old) (volume_of new) was.map (only_now (volume_of old)) was.left (k.crash told)).now;
    }

    synced : (old new : SlruBank P O g r) (before es : List Entry) → TailsHold old → SyncedAll (member_rack start) (IsMemberOn start bank) old new before es → TailsHold new
    synced old new before es was k = by_call old new was ((stays.map (pages_of old) (pages_of new)).same k.pages was.map) k.crash

    stepped : (old new : SlruBank P O g r) (before es : List Entry) → TailsHold old → StepsTo (member_rack start) (IsMemberOn start bank) HasZeroTails old new before es → TailsHold new
    stepped old new before es was =
        ⊎_elim (looked old new before es was) (⊎_elim (noted old new before es was) (⊎_elim (made old new before es was) (⊎_elim (set old new before es was) (⊎_elim (cut old new before es was) (synced old new before es was)))))

    pub tails_hold : (steps : ℕ) (store : SlruBank P O g r) (es : List Entry) → CameTo (member_rack start) (IsMemberOn start bank) (CleanMembers start) HasZeroTails steps store es → TailsHold store
    tails_hold zero store es k = opened store k.1
    tails_hold (suc n) store es k = stepped k.0 store k.1 es (tails_hold n k.0 k.1 k.2) k.3
