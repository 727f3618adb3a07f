-- The multixacts of a history can be told in a report.
use Rattle.std.proofs.Common.{◌≡◌, ℕ, zero, suc, ◌+◌, ◌-◌, ◌%◌, ◌^◌, ◌<◌, ◌≤◌, List, [], ◌∷◌, ◌++◌, Bool, true, false, cond, Option, Some, refl, sym, ap, subst, ◌∙◌, ⊎_elim, arith, length, map, IsTrue, min, nat_lt, take, drop, ◌==◌, append-nil, take-append-drop}
use Rattle.std.proofs.lemmas.Bool.Decides.{nat_tests}
use Rattle.std.proofs.lemmas.List.Elements.{filter_map-append}
use Rattle.std.proofs.lemmas.List.Sums.{fold_push}
use Rattle.std.specs.List.{AllByRecursion, AllZip, fold}
use Rattle.tx_events.specs.Ids.{IsFullMulti, low_half, next_multi}
use Rattle.tx_events.specs.Nearest.{near_id}
use Rattle.tx_events.specs.Limits.{member_stop, multi_stop_limit, multi_wrap_limit}
use Rattle.tx_events.specs.declared.event.By.{By}
use Rattle.tx_events.specs.declared.event.Event.{Event}
use Rattle.tx_events.specs.declared.multi.Member.{Member}
use Rattle.tx_events.specs.declared.multi.MultiEvent.{MultiEvent}
use Rattle.tx_events.specs.declared.multi.MultiEvent.TheVariants as multis
use Rattle.tx_events.specs.declared.record.Counters.{Counters}
use Rattle.tx_events.specs.Base.{IsBase}
use Rattle.tx_events.specs.History.{IsLegal, next_given}
use Rattle.tx_events.specs.Multis.{AreLegalMultis, BeginsAt, InBase, MultiMayCome, Pin, first_member, free_after, free_offset, made, made_at, made_by, next_made, nth_multi, oldest_multi, oldest_offset, pin_limit, pins, pins_after, same_pin, without_pin}
use Rattle.tx_events.proofs.GivenIds.{legal_take}
use Rattle.tx_events.proofs.ListSteps.{all_push, le_or_over, length_push}
use Rattle.tx_events.proofs.Nearness.{near_is}
use Rattle.tx_events.proofs.PlaceLemmas.{by_place, each_place_start}
use Rattle.tx_model.specs.declared.command.Command.{Command}
use Rattle.tx_model.specs.declared.command.Command.TheVariants as commands
use Rattle.tx_model.specs.declared.command.Pair.{Pair}
use Rattle.tx_model.specs.declared.reply.Reply.{Reply}
use Rattle.tx_model.specs.declared.reply.Reply.TheVariants as replies
use Rattle.tx_events.specs.declared.refusal.Refusal.TheVariants as refusals
use Rattle.tx_model.specs.Replies.{RoundSpan}
use Rattle.life_law.specs.MultiLines.{AreGiven, ArePinned, ArePinnedNear, AreRaised, HasMultiEvents, IsMemberOf, may_have_given}
use Rattle.report_words.specs.Fits.{FitsCounters, FitsMember, FitsMulti, FitsPair, FitsCommand}
use Rattle.run_report.proofs.Ids.{full_fits, least_has, next_small}

-- ---- numbers

next_full : (n : ℕ) → IsFullMulti (next_multi n)
next_full n = step (nat_lt (low_half (n + 1)) 1) refl
  where
    step : (b : Bool) → nat_lt (low_half (n + 1)) 1 ≡ b → IsFullMulti (cond b (n + 2) (n + 1))
    step true e = let r : (n + 1) % 2 ^ 32 < 1 = grind (arith, nat_tests) in omega arith
    step false e = let r : 1 ≤ (n + 1) % 2 ^ 32 = grind (arith, nat_tests) in r

next_upto : (n : ℕ) → next_multi n ≤ n + 2
next_upto n = elim (nat_lt (low_half (n + 1)) 1) as (λ b. cond b (n + 2) (n + 1) ≤ n + 2) [ true ↦ omega arith | false ↦ omega arith ]

nth_full : (first n : ℕ) → IsFullMulti first → IsFullMulti (nth_multi first n)
nth_full first zero full = full
nth_full first (suc n) full = next_full (nth_multi first n)

multi_to : (oldest : ℕ) → multi_stop_limit oldest + 1 ≤ 2 ^ 63
multi_to oldest = omega arith

pub member_to : (oldest : ℕ) → member_stop oldest + 1 ≤ 2 ^ 63
member_to oldest = omega arith

low_fits : (m n : ℕ) → 1 ≤ m % 2 ^ 32 → 1 ≤ n % 2 ^ 32 → 1 ≤ min m n % 2 ^ 32
low_fits m n a b = ⊎_elim (λ (l : m ≤ n). let e : m ≡ min m n = omega arith in subst (λ z. 1 ≤ z % 2 ^ 32) e a) (λ (l : n < m). let e : n ≡ min m n = omega arith in subst (λ z. 1 ≤ z % 2 ^ 32) e b) (le_or_over m n)

pub multi_stop_fits : (oldest : ℕ) → FitsMulti (multi_stop_limit oldest)
multi_stop_fits oldest = let to = multi_to oldest in (omega (arith, to), low_fits (down n) (2 ^ 63 - 1) (down_full n (wide oldest)) (omega arith))
  where
    n : ℕ
    n = multi_wrap_limit oldest - 3000000

    down : ℕ → ℕ
    down n = cond (nat_lt (low_half n) 1) (n - 1) n

    wide : (oldest : ℕ) → 0 < multi_wrap_limit oldest - 3000000
    wide oldest = elim (nat_lt (low_half (oldest + 2147483647)) 1) as (λ b. 0 < cond b (oldest + 2147483647 + 1) (oldest + 2147483647) - 3000000) [ true ↦ omega arith | false ↦ omega arith ]

    down_full : (n : ℕ) → 0 < n → 1 ≤ down n % 2 ^ 32
    down_full n p = step (nat_lt (low_half n) 1) refl
      where
        step : (b : Bool) → nat_lt (low_half n) 1 ≡ b → 1 ≤ cond b (n - 1) n % 2 ^ 32
        step true e = let r : n % 2 ^ 32 < 1 = grind (arith, nat_tests) in omega (arith, r, p)
        step false e = let r : 1 ≤ n % 2 ^ 32 = grind (arith, nat_tests) in r

first_upto : (n : ℕ) → first_member n ≤ n + 1
first_upto n = elim (low_half n == 0) as (λ b. cond b (n + 1) n ≤ n + 1) [ true ↦ omega arith | false ↦ omega arith ]

-- ---- one more event

next_gen : (first : ℕ) (h : List MultiEvent) (by : By) (multi offset : ℕ) (members : List Member) → next_made first (h ++ multis.Gen by multi offset members ∷ []) ≡ next_multi (next_made first h)
next_gen first h by multi offset members =
    ap (λ l. nth_multi first (length l)) (filter_map-append made_by h (multis.Gen by multi offset members ∷ []))
    ∙ ap (nth_multi first) (length_push (made h) multi)

next_hold : (first : ℕ) (h : List MultiEvent) (by : By) (multi : ℕ) → next_made first (h ++ multis.Hold by multi ∷ []) ≡ next_made first h
next_hold first h by multi = ap (λ l. nth_multi first (length l)) (filter_map-append made_by h (multis.Hold by multi ∷ []) ∙ append-nil (made h))

next_unhold : (first : ℕ) (h : List MultiEvent) (by : By) (multi : ℕ) → next_made first (h ++ multis.Unhold by multi ∷ []) ≡ next_made first h
next_unhold first h by multi = ap (λ l. nth_multi first (length l)) (filter_map-append made_by h (multis.Unhold by multi ∷ []) ∙ append-nil (made h))

next_raise : (first : ℕ) (h : List MultiEvent) (by : By) (multi offset : ℕ) → next_made first (h ++ multis.Raise by multi offset ∷ []) ≡ next_made first h
next_raise first h by multi offset = ap (λ l. nth_multi first (length l)) (filter_map-append made_by h (multis.Raise by multi offset ∷ []) ∙ append-nil (made h))

-- ---- a legal history

-- what a legal history says of its events
abbrev pub MadeFits : MultiEvent → Type 0
MadeFits (multis.Gen by multi offset members) = FitsMulti multi × (offset < 2 ^ 63)
MadeFits (multis.Raise by multi offset) = offset < 2 ^ 63
MadeFits e = Unit {0}

record Made (base : Counters) (h : List MultiEvent) : Type 0 where
  next : next_made base.multi h < 2 ^ 63 + 2
  free : free_offset base.offset h < 2 ^ 63
  each : AllByRecursion MadeFits h

at_one : (b : Bool) (at offset : ℕ) (later : Option ℕ) → at < 2 ^ 63 → (later ≡ Some offset → offset < 2 ^ 63) → cond b (Some at) later ≡ Some offset → offset < 2 ^ 63
at_one true at offset later l f q = let s : at ≡ offset = cc in subst (λ n. n < 2 ^ 63) s l
at_one false at offset later l f q = f q

at_fits : (multi offset : ℕ) (h : List MultiEvent) → AllByRecursion MadeFits h → made_at multi h ≡ Some offset → offset < 2 ^ 63
at_fits multi offset [] a e = absurd cc
at_fits multi offset (multis.Gen by m at members ∷ h) a e = at_one (m == multi) at offset (made_at multi h) a.0.1 (at_fits multi offset h a.1) e
at_fits multi offset (multis.Hold by m ∷ h) a e = at_fits multi offset h a.1 e
at_fits multi offset (multis.Unhold by m ∷ h) a e = at_fits multi offset h a.1 e
at_fits multi offset (multis.Raise by m at ∷ h) a e = at_fits multi offset h a.1 e

fold_least : (a : ℕ) (xs : List ℕ) → fold min a xs ≤ a
fold_least a [] = omega arith
fold_least a (x ∷ xs) = let r = fold_least (min a x) xs in omega arith

begins_fit : (base : Counters) (h : List MultiEvent) (multi offset : ℕ) → Made base h → base.offset < 2 ^ 63 → multi ≤ next_made base.multi h → BeginsAt base (InBase base) h multi offset → offset < 2 ^ 63
begins_fit base h multi offset m o below b = ⊎_elim
    (λ (old : base.multi ≤ multi). ⊎_elim
    (λ (n : next_made base.multi h ≤ multi). let e : multi ≡ next_made base.multi h = omega arith in subst (λ z. z < 2 ^ 63) (sym (b.of_next e)) m.free)
    (λ (l : multi < next_made base.multi h). at_fits multi offset h m.each (b.of_life old l))
    (le_or_over (next_made base.multi h) multi))
    (λ (l : multi < base.multi). let k = (b.of_base l).1 in omega (arith, k, o))
    (le_or_over base.multi multi)

made_step : (base : Counters) (h : List MultiEvent) (e : MultiEvent) → base.offset < 2 ^ 63 → IsFullMulti base.multi → Made base h → MultiMayCome base (InBase base) h e → Made base (h ++ e ∷ [])
made_step base h (multis.Gen by multi offset members) o f m may =
    let stop = multi_to (oldest_multi base.oldest_multi h) in
    let below = may.below_stop in
    let small : multi < 2 ^ 63 = omega (arith, stop, below) in
    let is = may.next in
    let up = next_upto (next_made base.multi h) in
    let members_stop = member_to (oldest_offset base.oldest_offset h) in
    let below_members = may.below_member_stop in
    let free : offset + length members < 2 ^ 63 = omega (arith, members_stop, below_members) in
    let at : offset < 2 ^ 63 = omega (arith, free) in
    let full : IsFullMulti multi = subst IsFullMulti (sym is) (nth_full base.multi (length (made h)) f) in
    record {
      next = subst (λ n. n < 2 ^ 63 + 2) (sym (next_gen base.multi h by multi offset members)) (omega (arith, up, is, small));
      free = subst (λ n. n < 2 ^ 63) (sym (fold_push free_after base.offset h (multis.Gen by multi offset members))) free;
      each = all_push MadeFits h (multis.Gen by multi offset members) m.each ((omega (arith, small), full), at);
    }
made_step base h (multis.Hold by multi) o f m may = record {
  next = subst (λ n. n < 2 ^ 63 + 2) (sym (next_hold base.multi h by multi)) m.next;
  free = subst (λ n. n < 2 ^ 63) (sym (fold_push free_after base.offset h (multis.Hold by multi))) m.free;
  each = all_push MadeFits h (multis.Hold by multi) m.each tt;
}
made_step base h (multis.Unhold by multi) o f m may = record {
  next = subst (λ n. n < 2 ^ 63 + 2) (sym (next_unhold base.multi h by multi)) m.next;
  free = subst (λ n. n < 2 ^ 63) (sym (fold_push free_after base.offset h (multis.Unhold by multi))) m.free;
  each = all_push MadeFits h (multis.Unhold by multi) m.each tt;
}
made_step base h (multis.Raise by multi offset) o f m may =
    let least = fold_least (next_made base.multi h) (map (λ (p : Pin). p.1) (pins h)) in
    let pinned = may.not_pinned in
    record {
      next = subst (λ n. n < 2 ^ 63 + 2) (sym (next_raise base.multi h by multi offset)) m.next;
      free = subst (λ n. n < 2 ^ 63) (sym (fold_push free_after base.offset h (multis.Raise by multi offset))) m.free;
      each = all_push MadeFits h (multis.Raise by multi offset) m.each (begins_fit base h multi offset m o (omega (arith, least, pinned)) may.begins);
    }

-- the history of a life's multixacts, from a base whose numbers can be told
pub record GoodMultis (base : Counters) (all : List MultiEvent) : Type 0 where
  pub base_is : IsBase base
  pub counters : FitsCounters base
  pub legal : AreLegalMultis base (InBase base) all

made_all : (base : Counters) (all : List MultiEvent) → GoodMultis base all → Made base all
made_all base all g =
    let stop = multi_to base.oldest_multi in
    let multi = g.base_is.multi in
    let members = member_to base.oldest_offset in
    let offset = g.base_is.offset in
    let o : base.offset < 2 ^ 63 = omega (arith, members, offset) in
    by_place (MultiMayCome base (InBase base)) (Made base)
    (record { next = omega (arith, stop, multi); free = o; each = tt })
    (λ h e before may. made_step base h e o g.counters.multi.1 before may) all g.legal

good_take : (base : Counters) (all : List MultiEvent) (p : ℕ) → GoodMultis base all → GoodMultis base (take p all)
good_take base all p g = record {
  base_is = g.base_is;
  counters = g.counters;
  legal = each_place_start (MultiMayCome base (InBase base)) (take p all) (drop p all) (subst (AreLegalMultis base (InBase base)) (sym (take-append-drop p all)) g.legal);
}

pub made_fit : (base : Counters) (all : List MultiEvent) → GoodMultis base all → AllByRecursion MadeFits all
made_fit base all g = (made_all base all g).each

pub next_below : (base : Counters) (all : List MultiEvent) (p : ℕ) → GoodMultis base all → next_made base.multi (take p all) < 2 ^ 63 + 2
next_below base all p g = (made_all base (take p all) (good_take base all p g)).next

pub next_made_fits : (base : Counters) (all : List MultiEvent) (p : ℕ) → GoodMultis base all → FitsMulti (next_made base.multi (take p all))
next_made_fits base all p g = let l = next_below base all p g in (omega (arith, l), nth_full base.multi (length (made (take p all))) g.counters.multi.1)

pub free_fits : (base : Counters) (all : List MultiEvent) (p : ℕ) → GoodMultis base all → free_offset base.offset (take p all) < 2 ^ 63
free_fits base all p g = (made_all base (take p all) (good_take base all p g)).free

pub first_fits : (base : Counters) (all : List MultiEvent) (p : ℕ) → GoodMultis base all → first_member (free_offset base.offset (take p all)) < 2 ^ 64
first_fits base all p g = let f = free_fits base all p g in let u = first_upto (free_offset base.offset (take p all)) in omega (arith, f, u)

-- ---- what the lines say

-- the multixacts that a command named, and the members
abbrev pub MultiNamed : MultiEvent → Type 0
MultiNamed (multis.Gen by multi offset members) = AllByRecursion FitsMember members
MultiNamed (multis.Hold by multi) = FitsMulti multi
MultiNamed (multis.Unhold by multi) = FitsMulti multi
MultiNamed (multis.Raise by multi offset) = FitsMulti multi

near_fits : (next x y : ℕ) → next < 2 ^ 63 + 2 → 1 ≤ x → x < 2 ^ 32 → near_id next x ≡ Some y → FitsMulti y
near_fits next x y n o l e =
    let k = near_is next x y e in
    let low : y % 2 ^ 32 ≡ x % 2 ^ 32 = k.0 in
    let above = k.2 in
    (omega (arith, above, n), omega (arith, low, o, l))

member_fits : (base : Counters) (h : List Event) (round : RoundSpan) (by : By) (pair : Pair) (member : Member) → IsBase base → IsLegal base h → FitsPair pair → IsMemberOf base h round by pair member → FitsMember member
member_fits base h round by pair member b l f m =
    let k = near_is (next_given base.next (take m.place h)) pair.x.number member.id m.near in
    let low : member.id % 2 ^ 32 ≡ pair.x.number % 2 ^ 32 = k.0 in
    let next = next_small base (take m.place h) b (legal_take base h m.place l) in
    let given = m.given in
    let normal = m.normal in
    full_fits member.id (omega (arith, low, normal, f)) (omega (arith, given, next))

members_fit : (base : Counters) (h : List Event) (round : RoundSpan) (by : By) (pairs : List Pair) (members : List Member) → IsBase base → IsLegal base h → AllByRecursion FitsPair pairs → AllZip (IsMemberOf base h round by) pairs members → AllByRecursion FitsMember members
members_fit base h round by [] [] b l f z = tt
members_fit base h round by [] (m ∷ members) b l f z = absurd z
members_fit base h round by (p ∷ pairs) [] b l f z = absurd z
members_fit base h round by (p ∷ pairs) (m ∷ members) b l f z = (member_fits base h round by p m b l f.0 z.0, members_fit base h round by pairs members b l f.1 z.1)

given_named : (base : Counters) (h : List Event) (round : RoundSpan) (by : By) (pairs : List Pair) (es : List MultiEvent) → IsBase base → IsLegal base h → AllByRecursion FitsPair pairs → AreGiven base h round by pairs es → AllByRecursion MultiNamed es
given_named base h round by pairs es b l f g = subst (AllByRecursion MultiNamed) (sym g.events_are) (members_fit base h round by pairs g.members b l f g.told, tt)

pinned_named : (by : By) (multi : ℕ) (es : List MultiEvent) → FitsMulti multi → ArePinned by multi es → AllByRecursion MultiNamed es
pinned_named by multi es f e = subst (AllByRecursion MultiNamed) (sym e) (f, (f, tt))

raised_named : (by : By) (multi : ℕ) (es : List MultiEvent) → FitsMulti multi → AreRaised by multi es → AllByRecursion MultiNamed es
raised_named by multi es f e = ⊎_elim
    (λ (a : (offset : ℕ) × (es ≡ multis.Hold by multi ∷ multis.Raise by multi offset ∷ multis.Unhold by multi ∷ [])). subst (AllByRecursion MultiNamed) (sym a.1) (f, (f, (f, tt))))
    (λ (a : (offset : ℕ) × (es ≡ multis.Raise by multi offset ∷ [])). subst (AllByRecursion MultiNamed) (sym a.1) (f, tt))
    e

near_named : (base : Counters) (all : List MultiEvent) (by : By) (m : ℕ) (es : List MultiEvent) → GoodMultis base all → 1 ≤ m → m < 2 ^ 32 → ArePinnedNear base all by m es → AllByRecursion MultiNamed es
near_named base all by m es g o l e = pinned_named by e.1 es (near_fits (next_made base.multi (take e.0 all)) m e.1 (next_below base all e.0 g) o l e.3) e.4

none_named : (es : List MultiEvent) → es ≡ [] → AllByRecursion MultiNamed es
none_named es e = subst (AllByRecursion MultiNamed) (sym e) tt

command_multi : (multi : ℕ) → IsFullMulti multi × (multi ≤ 2 ^ 62) → FitsMulti multi
command_multi multi f = let l = f.1 in (omega (arith, l), f.0)

-- the multixact events of a command
pub own_multis_named : (base : Counters) (h : List Event) (round : RoundSpan) (all : List MultiEvent) (by : By) (c : Command) (r : Reply) (es : List MultiEvent) → IsLegal base h → GoodMultis base all → FitsCommand c → HasMultiEvents base h round all by c r es → AllByRecursion MultiNamed es
own_multis_named base h round all by (commands.Multi pairs) (replies.Multi multi offset warn) es l g f e = given_named base h round by pairs es g.base_is l f e.1
own_multis_named base h round all by (commands.Multi pairs) (replies.Refused refusal) es l g f e = ⊎_elim
    (λ (a : es ≡ []). none_named es a)
    (λ (a : IsTrue (may_have_given refusal) × AreGiven base h round by pairs es). given_named base h round by pairs es g.base_is l f a.1)
    e
own_multis_named base h round all by (commands.SeeMulti name m) (replies.Verdicts verdicts) es l g f e = near_named base all by m.number es g f.1 f.2 e
own_multis_named base h round all by (commands.SeeMulti name m) (replies.Refused (refusals.NotYet next)) es l g f e = near_named base all by m.number es g f.1 f.2 e
own_multis_named base h round all by (commands.SeeMulti name m) (replies.Refused (refusals.DiskFault lock)) es l g f e = near_named base all by m.number es g f.1 f.2 e
own_multis_named base h round all by (commands.SeeMulti name m) (replies.Refused refusals.Memory) es l g f e = ⊎_elim
    (λ (a : es ≡ []). none_named es a)
    (λ (a : ArePinnedNear base all by m.number es). near_named base all by m.number es g f.1 f.2 a)
    e
own_multis_named base h round all by (commands.MultiFreeze multi) replies.Done es l g f e = raised_named by multi es (command_multi multi f) e
own_multis_named base h round all by (commands.MultiFreeze multi) (replies.Refused (refusals.NotYet next)) es l g f e = pinned_named by multi es (command_multi multi f) e
own_multis_named base h round all by (commands.MultiFreeze multi) (replies.Refused (refusals.DiskFault lock)) es l g f e = pinned_named by multi es (command_multi multi f) e
own_multis_named base h round all by (commands.MultiFreeze multi) (replies.Refused (refusals.Held limit)) es l g f e = ⊎_elim
    (λ (a : es ≡ []). none_named es a)
    (λ (a : ArePinned by multi es). pinned_named by multi es (command_multi multi f) a)
    e
own_multis_named base h round all by (commands.MultiFreeze multi) (replies.Refused refusals.Memory) es l g f e = ⊎_elim
    (λ (a : es ≡ []). none_named es a)
    (λ (a : ArePinned by multi es). pinned_named by multi es (command_multi multi f) a)
    e
own_multis_named base h round all by c r es l g f e = none_named es e

-- ---- the oldest one, and the pins

oldest_step : (oldest : ℕ) (h : List MultiEvent) → FitsMulti oldest → AllByRecursion MultiNamed h → FitsMulti (oldest_multi oldest h)
oldest_step oldest [] f a = f
oldest_step oldest (multis.Gen by multi offset members ∷ h) f a = oldest_step oldest h f a.1
oldest_step oldest (multis.Hold by multi ∷ h) f a = oldest_step oldest h f a.1
oldest_step oldest (multis.Unhold by multi ∷ h) f a = oldest_step oldest h f a.1
oldest_step oldest (multis.Raise by multi offset ∷ h) f a = oldest_step multi h a.0 a.1

offset_step : (oldest : ℕ) (h : List MultiEvent) → oldest < 2 ^ 64 → AllByRecursion MadeFits h → oldest_offset oldest h < 2 ^ 64
offset_step oldest [] f a = f
offset_step oldest (multis.Gen by multi offset members ∷ h) f a = offset_step oldest h f a.1
offset_step oldest (multis.Hold by multi ∷ h) f a = offset_step oldest h f a.1
offset_step oldest (multis.Unhold by multi ∷ h) f a = offset_step oldest h f a.1
offset_step oldest (multis.Raise by multi offset ∷ h) f a = offset_step offset h (let k = a.0 in omega (arith, k)) a.1

abbrev PinsFit : List Pin → Type 0
PinsFit ps = AllByRecursion (λ (p : Pin). FitsMulti p.1) ps

without_fits : (p : Pin) (ps : List Pin) → PinsFit ps → PinsFit (without_pin p ps)
without_fits p [] a = tt
without_fits p (q ∷ ps) a = elim (same_pin p q) as (λ b. PinsFit (cond b ps (q ∷ without_pin p ps))) [ true ↦ a.1 | false ↦ (a.0, without_fits p ps a.1) ]

pins_step : (ps : List Pin) (h : List MultiEvent) → PinsFit ps → AllByRecursion MultiNamed h → PinsFit (fold pins_after ps h)
pins_step ps [] f a = f
pins_step ps (multis.Gen by multi offset members ∷ h) f a = pins_step ps h f a.1
pins_step ps (multis.Hold by multi ∷ h) f a = pins_step (ps ++ (by.session, multi) ∷ []) h (all_push (λ (p : Pin). FitsMulti p.1) ps (by.session, multi) f a.0) a.1
pins_step ps (multis.Unhold by multi ∷ h) f a = pins_step (without_pin (by.session, multi) ps) h (without_fits (by.session, multi) ps f) a.1
pins_step ps (multis.Raise by multi offset ∷ h) f a = pins_step ps h f a.1

pins_mapped : (ps : List Pin) → PinsFit ps → AllByRecursion FitsMulti (map (λ (p : Pin). p.1) ps)
pins_mapped [] a = tt
pins_mapped (p ∷ ps) a = (a.0, pins_mapped ps a.1)

some_first : {X : Type 0} (P : X → Type 0) (n : ℕ) (xs : List X) → AllByRecursion P xs → AllByRecursion P (take n xs)
some_first P zero xs a = tt
some_first P (suc n) [] a = tt
some_first P (suc n) (x ∷ xs) a = (a.0, some_first P n xs a.1)

pub oldest_multi_fits : (base : Counters) (all : List MultiEvent) (p : ℕ) → GoodMultis base all → AllByRecursion MultiNamed all → FitsMulti (oldest_multi base.oldest_multi (take p all))
oldest_multi_fits base all p g a = oldest_step base.oldest_multi (take p all) g.counters.oldest_multi (some_first MultiNamed p all a)

pub oldest_offset_fits : (base : Counters) (all : List MultiEvent) (p : ℕ) → GoodMultis base all → oldest_offset base.oldest_offset (take p all) < 2 ^ 64
oldest_offset_fits base all p g = offset_step base.oldest_offset (take p all) g.counters.oldest_offset (some_first MadeFits p all (made_fit base all g))

pub limit_fits : (base : Counters) (all : List MultiEvent) (p : ℕ) → GoodMultis base all → AllByRecursion MultiNamed all → FitsMulti (pin_limit base.multi (take p all))
limit_fits base all p g a =
    least_has FitsMulti (next_made base.multi (take p all)) (map (λ (q : Pin). q.1) (pins (take p all))) (next_made_fits base all p g)
    (pins_mapped (pins (take p all)) (pins_step [] (take p all) tt (some_first MultiNamed p all a)))
