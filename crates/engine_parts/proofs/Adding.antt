-- What a command adds, step by step.
use Rattle.std.proofs.Common.{◌≡◌, ◌≢◌, ℕ, ◌<◌, Bool, false, true, List, [], ◌∷◌, ◌++◌, Result, Ok, Err, None, Option, Some, append_assoc, append-nil, sym, ap, subst, ◌∙◌, length, arith, eq-eqb, ◌==◌, cond, IsTrue}
use Rattle.std.proofs.lemmas.List.Elements.{filter-append}
use mathlib.Core.Logic.{dite}
use native.Mathlib.Decide.{ℕ_discrete}
use Rattle.notes.specs.Lists.{at, own}
use Rattle.notes.proofs.Growing.{at_else, at_here}
use Rattle.tx_events.specs.declared.event.By.{By}
use Rattle.tx_events.specs.declared.event.Event.{Event}
use Rattle.tx_events.specs.declared.record.Rec.{Rec}
use Rattle.tx_events.specs.declared.refusal.Refusal.{Refusal}
use Rattle.tx_events.proofs.ListSteps.{all_weaker, both_all}
use Rattle.tx_model.specs.declared.command.Command.{Command}
use Rattle.tx_model.specs.declared.reply.Reply.{Reply}
use Rattle.tx_model.specs.declared.reply.Reply.TheVariants as replies
use Rattle.tx_model.specs.Stance.{Stance}
use Rattle.tx_core.specs.declared.entry.Entry.{Entry}
use Rattle.tx_core.specs.declared.entry.Kind.{Kind}
use Rattle.tx_core.specs.declared.entry.Kind.TheVariants as kinds
use Rattle.tx_core.specs.declared.entry.Start.{Start}
use Rattle.tx_core.specs.Entries.{event_in, session_of}
use Rattle.engine_parts.specs.declared.session.Stage.{Stage}
use Rattle.engine_parts.specs.Adding.{Adds, AddsTo, IsPlain, IsRecordBy, MayAdd, MayAddBy, MayFault, MayLeave, MayMeet, MayStopCut, cuts_pages}
use Rattle.engine_parts.specs.Holds.{Knowledge, Learns, Leaves}
use Rattle.engine_parts.specs.Standing.{flushes}

-- nothing
pub adds_nothing : (by : By) (May : ℕ → Kind → Type 0) (lists : List (List Entry)) → Adds by May lists lists
adds_nothing by May lists = record { each = λ lock. record { added = []; grown = sym (append-nil (own session_of by.session (at lists lock))); each = tt } }

-- one step after another
pub adds_then : (by : By) (May : ℕ → Kind → Type 0) (a b c : List (List Entry)) → Adds by May a b → Adds by May b c → Adds by May a c
adds_then by May a b c f g = record {
  each = λ lock.
      let x = f.each lock in
      let y = g.each lock in
      record {
        added = x.added ++ y.added;
        grown = y.grown ∙ (ap (λ (t : List Entry). t ++ y.added) x.grown ∙ append_assoc (own session_of by.session (at a lock)) x.added y.added);
        each = both_all (λ e. (e.by ≡ by) × May lock e.kind) x.added y.added x.each y.each;
      };
}

-- a step that may add more
pub adds_wider : (by : By) (May More : ℕ → Kind → Type 0) (a b : List (List Entry)) → ((lock : ℕ) (kind : Kind) → May lock kind → More lock kind) → Adds by May a b → Adds by More a b
adds_wider by May More a b wider f = record {
  each = λ lock.
      let x = f.each lock in
      record {
        added = x.added;
        grown = x.grown;
        each = all_weaker (λ (e : Entry). (e.by ≡ by) × May lock e.kind) (λ (e : Entry). (e.by ≡ by) × More lock e.kind) (λ e m. (m.0, wider lock e.kind m.1)) x.added x.each;
      };
}

-- ---- the kinds

-- what may be added without a cut may be added with one
may_stop : (cuts : Bool) (cut : Option ℕ) → cut ≡ None → MayStopCut cuts cut
may_stop true cut none = tt
may_stop false cut none = none

pub may_cut : (cuts : Bool) (Appends : Rec → Type 0) (Flushes : Type 0) (Tells : Refusal → Type 0) (lock : ℕ) (kind : Kind) → MayAdd Appends Flushes Tells lock kind → MayAddBy cuts Appends Flushes Tells lock kind
may_cut cuts A F T lock (kinds.Append rec) m = m
may_cut cuts A F T lock (kinds.Flush to) m = m
may_cut cuts A F T lock (kinds.Forget number) m = absurd m
may_cut cuts A F T lock (kinds.LogFault asked count) m = m
may_cut cuts A F T lock (kinds.Fault callers changes cut count) m = (m.0, m.1, m.2, may_stop cuts cut m.3)
may_cut cuts A F T lock (kinds.Cut page) m = absurd m
may_cut cuts A F T lock _ m = tt

pub may_wider : (Appends Appends' : Rec → Type 0) (Flushes Flushes' : Type 0) (Tells Tells' : Refusal → Type 0) → ((rec : Rec) → Appends rec → Appends' rec) → (Flushes → Flushes') → ((r : Refusal) → Tells r → Tells' r) → (lock : ℕ) (kind : Kind) → MayAdd Appends Flushes Tells lock kind → MayAdd Appends' Flushes' Tells' lock kind
may_wider A A' F F' T T' a f t lock (kinds.Append rec) m = a rec m
may_wider A A' F F' T T' a f t lock (kinds.Flush to) m = f m
may_wider A A' F F' T T' a f t lock (kinds.Forget number) m = absurd m
may_wider A A' F F' T T' a f t lock (kinds.LogFault asked count) m = (m.0, t _ m.1)
may_wider A A' F F' T T' a f t lock (kinds.Fault callers changes cut count) m = (m.0, m.1, t _ m.2, m.3)
may_wider A A' F F' T T' a f t lock (kinds.Cut page) m = absurd m
may_wider A A' F F' T T' a f t lock _ m = tt

-- a plain entry is always among them
pub plain_wider : (Appends : Rec → Type 0) (Flushes : Type 0) (Tells : Refusal → Type 0) (lock : ℕ) (kind : Kind) → IsPlain lock kind → MayAdd Appends Flushes Tells lock kind
plain_wider A F T = may_wider (λ rec. ⊥) A ⊥ F (λ r. ⊥) T (λ rec m. absurd m) (λ m. absurd m) (λ r m. absurd m)

-- whatever the command and its reply
pub plain_leaves : (command : Command) (s : Stance) (stage : Stage) (opened : List ℕ) (reply : Reply) (lock : ℕ) (kind : Kind) → IsPlain lock kind → MayLeave command s stage opened reply lock kind
plain_leaves command s stage opened reply lock kind plain =
    may_cut (cuts_pages command) (IsRecordBy command s stage opened) (IsTrue (flushes command s stage)) (λ r. reply ≡ replies.Refused r) lock kind
    (plain_wider (IsRecordBy command s stage opened) (IsTrue (flushes command s stage)) (λ r. reply ≡ replies.Refused r) lock kind plain)

-- a step that met a fault, which the command tells
pub met_leaves : (command : Command) (s : Stance) (stage : Stage) (opened : List ℕ) (told : Refusal) (lock : ℕ) (kind : Kind) → MayMeet told lock kind → MayLeave command s stage opened (replies.Refused told) lock kind
met_leaves command s stage opened told lock kind met =
    may_cut (cuts_pages command) (IsRecordBy command s stage opened) (IsTrue (flushes command s stage)) (λ r. replies.Refused told ≡ replies.Refused r) lock kind
    (may_wider (λ rec. ⊥) (IsRecordBy command s stage opened) ⊥ (IsTrue (flushes command s stage)) (λ r. told ≡ r) (λ r. replies.Refused told ≡ replies.Refused r) (λ rec m. absurd m) (λ m. absurd m) (λ r is. ap replies.Refused is) lock kind met)

-- so a step that is plain where it isn't refused
pub plain_meets : (told : Refusal) (lock : ℕ) (kind : Kind) → IsPlain lock kind → MayMeet told lock kind
plain_meets told = plain_wider (λ rec. ⊥) ⊥ (λ r. told ≡ r)

pub plain_faults : {T : Type 0} (result : Result T Refusal) (lock : ℕ) (kind : Kind) → IsPlain lock kind → MayFault result lock kind
plain_faults (Ok x) lock kind m = m
plain_faults (Err told) lock kind m = plain_meets told lock kind m

-- a plain step comes before one that may add as much
pub adds_after : (by by' : By) (May : ℕ → Kind → Type 0) (a b c : List (List Entry)) → by' ≡ by → ((lock : ℕ) (kind : Kind) → IsPlain lock kind → May lock kind) → Adds by IsPlain a b → Adds by' May b c → Adds by May a c
adds_after by by' May a b c same wider f g = adds_then by May a b c (adds_wider by IsPlain May a b wider f) (subst (λ z. Adds z May b c) same g)

-- an event is plain
pub event_plain : (lock : ℕ) (kind : Kind) (event : Event) → event_in kind ≡ Some event → IsPlain lock kind
event_plain lock (kinds.Event e) event is = tt
event_plain lock _ event is = absurd cc

-- ---- one critical section

own_one : (n : ℕ) (e : Entry) → e.by.session ≡ n → own session_of n (e ∷ []) ≡ e ∷ []
own_one n e same = ap (λ b. cond b (e ∷ []) []) (eq-eqb e.by.session n same)

pub section_added : (start : Start) (v u w : Knowledge) (lock : ℕ) (e : Entry) (by : By) (May : ℕ → Kind → Type 0) → v.name ≡ by.session → Learns v u → lock < length v.seen → Leaves start lock e u w → e.by ≡ by → May lock e.kind → Adds by May v.seen w.seen
section_added start v u w lock e by May name learns inside l mine may =
    let n = by.session in
    let long = learns.long in
    let there : lock < length u.seen = omega arith in
    let learnt : (k : ℕ) → own session_of n (at u.seen k) ≡ own session_of n (at v.seen k) = λ k. subst (λ z. own session_of z (at u.seen k) ≡ own session_of z (at v.seen k)) name (learns.knows.own k) in
    let left : (k : ℕ) → at w.seen k ≡ at _ k = λ k. ap (λ (z : List (List Entry)). at z k) l.seen in
    let other : (k : ℕ) → k ≢ lock → AddsTo by (May k) (at v.seen k) (at w.seen k) = λ k ne. record {
      added = [];
      grown = ap (own session_of n) (left k ∙ at_else u.seen lock k e ne) ∙ (learnt k ∙ sym (append-nil (own session_of n (at v.seen k))));
      each = tt;
    } in
    let here : AddsTo by (May lock) (at v.seen lock) (at w.seen lock) = record {
      added = e ∷ [];
      grown =
          ap (own session_of n) (left lock ∙ at_here u.seen lock e there)
          ∙ (filter-append (λ (f : Entry). session_of f == n) (at u.seen lock) (e ∷ [])
          ∙ (λ j. learnt lock j ++ own_one n e (ap (λ (b : By). b.session) mine) j));
      each = ((mine, may), tt);
    } in
    record { each = λ k. dite (ℕ_discrete k lock) (λ (q : k ≡ lock). subst (λ z. AddsTo by (May z) (at v.seen z) (at w.seen z)) (sym q) here) (other k) }
