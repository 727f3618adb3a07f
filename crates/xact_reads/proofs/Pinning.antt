-- What is pinned stays pinned while its session has no event of a multixact; and what was pinned before stays so.
use Rattle.std.proofs.Common.{List, [], ap, append-nil, arith, subst, sym, ℕ, ◌++◌, ◌∙◌, ◌≡◌, ◌≤◌, ◌≢◌, append_assoc, eq-eqb}
use Rattle.std.proofs.lemmas.List.Sums.{fold-append}
use Rattle.std.specs.List.{filter, fold}
use Rattle.notes.specs.Lists.{Grows}
use Rattle.tx_events.specs.Ids.{IsFullMulti, low_half}
use Rattle.tx_events.specs.declared.multi.MultiEvent.{MultiEvent}
use Rattle.tx_events.specs.declared.record.Counters.{Counters}
use Rattle.tx_events.specs.Events.{is_of}
use Rattle.tx_events.specs.Multis.{Pin, multi_by, next_made, oldest_multi, pins, pins_after}
use Rattle.tx_events.proofs.Nearness.{near_is}
use Rattle.tx_events.proofs.Membership.{Has, contains_has, has_contains, none_passes}
use Rattle.tx_core.specs.declared.entry.Entry.{Entry}
use Rattle.tx_core.specs.declared.entry.Start.{Start}
use Rattle.tx_core.specs.Entries.{history}
use Rattle.tx_core.specs.EngineInvariant.{EngineInvariant}
use Rattle.tx_core.specs.MultiEntries.{multi_history}
use Rattle.tx_core.specs.OwnMultis.{is_multi_of, own_multis}
use Rattle.tx_core.proofs.OwnMultis.{pins_hold, pins_over}
use Rattle.tx_core.proofs.Rising.{multis_grow}
use Rattle.engine_parts.proofs.Leaving.{grows_then}
use Rattle.engine_parts.specs.Steps.{WentMulti, WentOn}
use Rattle.multi_store.specs.declared.answers.Held.{Held}
use Rattle.multi_sections.specs.Pinnings.{IsPinned, Pins}
use Rattle.xact_reads.specs.Multis.{WasPinned}

-- ---- steps

pub multi_then : (n : ℕ) (xs ys : List MultiEvent) (a b c : List (List Entry)) → WentMulti n xs a b → WentMulti n ys b c → WentMulti n (xs ++ ys) a c
multi_then n xs ys a b c f g = record {
  grows = grows_then a b c f.grows g.grows;
  own = g.own ∙ f.own;
  multis = g.multis ∙ (ap (λ (t : List MultiEvent). t ++ ys) f.multis ∙ append_assoc (own_multis n a) xs ys);
  asks = λ id state asked. f.asks id state (g.asks id state asked);
}

-- behind another step of the same session
pub multi_both : (n m : ℕ) (a b c : List (List Entry)) → m ≡ n → WentMulti n [] a b → WentMulti m [] b c → WentMulti n [] a c
multi_both n m a b c same f g = multi_then n [] [] a b c f (subst (λ z. WentMulti z [] b c) same g)

-- a step without any event
pub multi_quiet : (n : ℕ) (a b : List (List Entry)) → WentOn n [] a b → WentMulti n [] a b
multi_quiet n a b w = record {
  grows = w.on.grows;
  own = w.on.own ∙ append-nil (filter (is_of n) (history a));
  multis = w.on.multis ∙ sym (append-nil (own_multis n a));
  asks = w.asks;
}

-- ---- pins

pub pins_kept : (n multi : ℕ) (lists more : List (List Entry)) → WentMulti n [] lists more → Pins n multi lists → Pins n multi more
pins_kept n multi lists more went c =
    let h = multi_history lists in
    let b = multis_grow lists more went.grows in
    let same : filter (is_multi_of n) (h ++ b.0) ≡ filter (is_multi_of n) h = ap (filter (is_multi_of n)) b.1 ∙ (went.multis ∙ append-nil (filter (is_multi_of n) h)) in
    let others : (e : MultiEvent) → Has b.0 e → (multi_by e).session ≢ n = λ e has q. none_passes (is_multi_of n) h b.0 same e has (eq-eqb (multi_by e).session n q) in
    let here : Has (fold pins_after (pins h) b.0) (n, multi) = pins_over n multi b.0 (pins h) others (contains_has (pins h) (n, multi) c) in
    has_contains (pins (multi_history more)) (n, multi)
    (subst (λ (t : List MultiEvent). Has (pins t) (n, multi)) b.1 (subst (λ (ps : List Pin). Has ps (n, multi)) (sym (fold-append pins_after [] h b.0)) here))

-- it is one from the announced oldest one on
pub pinned_from : (start : Start) (lists : List (List Entry)) (n multi : ℕ) → EngineInvariant start lists → Pins n multi lists → oldest_multi start.base.oldest_multi (multi_history lists) ≤ multi
pinned_from start lists n multi k c = (pins_hold start lists n multi k c).0

pub pinned_later : (start : Start) (lists more : List (List Entry)) (held : Held) → Grows lists more → WasPinned start lists held → WasPinned start more held
pinned_later start lists more held g p =
    let b = multis_grow lists more g in
    record {
      before = p.before;
      begins = (p.begins.0 ++ b.0, sym (append_assoc p.before p.begins.0 b.0) ∙ (ap (λ (t : List MultiEvent). t ++ b.0) p.begins.1 ∙ b.1));
      m = p.m;
      pinned = p.pinned;
      full = p.full;
    }

-- what a number means that isn't 0 is a full multixact
pub full_of : (base : Counters) (before : List MultiEvent) (m : ℕ) (held : Held) → IsPinned base before m held → 1 ≤ low_half m → IsFullMulti held.multi
full_of base before m held p some = let low = (near_is (next_made base.multi before) m held.multi p.near).0 in omega (arith, low, some)
