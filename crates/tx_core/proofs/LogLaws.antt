-- The last flush is the greatest, and a log that is down stays as it is.
use Rattle.std.proofs.Common.{Bool, false, List, None, Option, Some, [], append-nil, append_assoc, ap, arith, length, length-append, refl, subst, sym, true, ℕ, ⊎_elim, ◌++◌, ◌+◌, ◌||◌, ◌∙◌, ◌∷◌, ◌≡◌, ◌≤◌}
use Rattle.std.proofs.lemmas.Bool.{false≢true}
use Rattle.std.proofs.lemmas.List.Elements.{filter_map-append}
use Rattle.std.proofs.lemmas.List.Folds.{list_any-append}
use Rattle.std.specs.List.{cons_option}
use Rattle.tx_events.specs.declared.event.By.{By}
use Rattle.tx_events.proofs.Membership.{Has, by_end, contains_has, has_cases}
use Rattle.tx_events.proofs.PlaceLemmas.{by_place, each_place_last, each_place_start}
use Rattle.tx_events.specs.Places.{EachPlace}
use Rattle.tx_core.specs.declared.entry.Entry.{Entry}
use Rattle.tx_core.specs.declared.entry.Kind.{Kind}
use Rattle.tx_core.specs.declared.entry.Kind.TheVariants as kinds
use Rattle.tx_core.specs.declared.entry.Start.{Start}
use Rattle.tx_core.specs.Consequences.{DownStays, FlushesRise}
use Rattle.tx_core.specs.Entries.{appended, appended_in, flushed_in, flushed_to, records_in}
use Rattle.tx_core.specs.Locks.{log_lock}
use Rattle.tx_core.specs.RecordsFollow.{FlushOf, NeedsFlush}
use Rattle.tx_core.specs.StaysDown.{UpOf, is_down, is_put_down}
use Rattle.tx_core.proofs.LastNumbers.{number_push, number_same}
use Rattle.notes.specs.Lists.{at}

-- what holds of the last flush among these entries
record Last (start : Start) (es : List Entry) : Type 0 where
  from : start.from ≤ flushed_to start es
  within : flushed_to start es ≤ start.from + length (records_in es)
  greatest : (by : By) (to : ℕ) → Has es (record { by = by; kind = kinds.Flush to }) → to ≤ flushed_to start es

records_push : (es : List Entry) (e : Entry) → length (records_in (es ++ e ∷ [])) ≡ length (records_in es) + length (cons_option (appended e) [])
records_push es e = ap (λ (t : List _). length t) (filter_map-append appended es (e ∷ [])) ∙ length-append (records_in es) (cons_option (appended e) [])

flush_kind : (kind : Kind) (to : ℕ) → flushed_in kind ≡ Some to → kind ≡ kinds.Flush to
flush_kind (kinds.Flush other) to g = let q : other ≡ to = cc in ap kinds.Flush q
flush_kind _ to g = absurd cc

last_step : (start : Start) (es : List Entry) (e : Entry) → Last start es → FlushOf start es e.kind → Last start (es ++ e ∷ [])
last_step start es e before rule =
    let more = records_push es e in
    let from = before.from in
    let within = before.within in
    let step : (o : Option ℕ) → flushed_in e.kind ≡ o → Last start (es ++ e ∷ []) = elim [
      | None ↦ λ q.
          let same = number_same flushed_in start.from es e q in record {
            from = omega arith;
            within = omega arith;
            greatest = λ by to c. ⊎_elim
                (λ old. let le = before.greatest by to old in omega arith)
                (λ new. ⊎_elim
                (λ (is : e ≡ record { by = by; kind = kinds.Flush to }). let z : None ≡ Some to = sym q ∙ ap (λ (f : Entry). flushed_in f.kind) is in absurd cc)
                (λ z. absurd z) new)
                (has_cases es (e ∷ []) (record { by = by; kind = kinds.Flush to }) c);
          }
      | Some reached ↦ λ q.
          let now = number_push flushed_in start.from es e reached q in
          let need : FlushOf start es (kinds.Flush reached) = subst (FlushOf start es) (flush_kind e.kind reached q) rule in
          let rises = need.0 in
          let upto = need.1 in record {
            from = omega arith;
            within = omega arith;
            greatest = λ by to c. ⊎_elim
                (λ old. let le = before.greatest by to old in omega arith)
                (λ new. ⊎_elim
                (λ (is : e ≡ record { by = by; kind = kinds.Flush to }). let z : Some reached ≡ Some to = sym q ∙ ap (λ (f : Entry). flushed_in f.kind) is in let same : reached ≡ to = cc in omega arith)
                (λ z. absurd z) new)
                (has_cases es (e ∷ []) (record { by = by; kind = kinds.Flush to }) c);
          }
    ] in
    step (flushed_in e.kind) refl

pub flushes_rise : FlushesRise
flushes_rise start lists k =
    let last = by_place (NeedsFlush start lists log_lock) (Last start) (record { from = omega arith; within = omega arith; greatest = λ by to c. absurd c }) (λ es e before rule. last_step start es e before rule) (at lists log_lock) (k.log.flushed.each log_lock) in record {
      from = last.from;
      within = last.within;
      greatest = λ to s. last.greatest s.0 to (contains_has (at lists log_lock) (record { by = s.0; kind = kinds.Flush to }) s.1);
    }

-- a log that is down takes no record and no flush
down_quiet : (before : List Entry) (by : By) (kind : Kind) → is_down before ≡ true → UpOf before kind → (appended_in by kind ≡ None) × (flushed_in kind ≡ None)
down_quiet before by (kinds.Append rec) down up = absurd (false≢true (sym up ∙ down))
down_quiet before by (kinds.Flush to) down up = absurd (false≢true (sym up ∙ down))
down_quiet before by _ down up = (refl, refl)

-- one entry more
pub down_same : (es : List Entry) (e : Entry) → is_put_down e.kind ≡ false → is_down (es ++ e ∷ []) ≡ is_down es
down_same es e still =
    list_any-append (λ (d : Entry). is_put_down d.kind) es (e ∷ []) ∙ (ap (λ b. is_down es || (b || false)) still ∙ or_false (is_down es))
  where
    or_false : (b : Bool) → (b || false) ≡ b
    or_false true = refl
    or_false false = refl

pub down_now : (es : List Entry) (e : Entry) → is_put_down e.kind ≡ true → is_down (es ++ e ∷ []) ≡ true
down_now es e put =
    list_any-append (λ (d : Entry). is_put_down d.kind) es (e ∷ []) ∙ (ap (λ b. is_down es || (b || false)) put ∙ or_true (is_down es))
  where
    or_true : (b : Bool) → (b || true) ≡ true
    or_true true = refl
    or_true false = refl

record Stays (start : Start) (es more : List Entry) : Type 0 where
  down : is_down more ≡ true
  records : records_in more ≡ records_in es
  flushed : flushed_to start more ≡ flushed_to start es

stays_step : (start : Start) (es more : List Entry) (e : Entry) → Stays start es more → UpOf more e.kind → Stays start es (more ++ e ∷ [])
stays_step start es more e before rule =
    let quiet = down_quiet more e.by e.kind before.down rule in record {
      down = list_any-append (λ (d : Entry). is_put_down d.kind) more (e ∷ []) ∙ ap (λ b. b || is_down (e ∷ [])) before.down;
      records = filter_map-append appended more (e ∷ []) ∙ (ap (λ o. records_in more ++ cons_option o []) quiet.0 ∙ (append-nil (records_in more) ∙ before.records));
      flushed = number_same flushed_in start.from more e quiet.1 ∙ before.flushed;
    }

pub down_stays : DownStays
down_stays start lists more k grows down =
    let es = at lists log_lock in
    let rest = grows.begins log_lock in
    let s = by_end (λ r. EachPlace (es ++ r) (λ before e. UpOf before e.kind) → Stays start es (es ++ r))
    (λ each. subst (Stays start es) (sym (append-nil es)) (record { down = down; records = refl; flushed = refl }))
    (λ r e before each.
    let split : es ++ (r ++ e ∷ []) ≡ (es ++ r) ++ e ∷ [] = sym (append_assoc es r (e ∷ [])) in
    let every : EachPlace ((es ++ r) ++ e ∷ []) (λ before e. UpOf before e.kind) = subst (λ (t : List Entry). EachPlace t (λ before e. UpOf before e.kind)) split each in
    subst (Stays start es) (sym split)
    (stays_step start es (es ++ r) e (before (each_place_start (λ before e. UpOf before e.kind) (es ++ r) (e ∷ []) every)) (each_place_last (λ before e. UpOf before e.kind) (es ++ r) e every)))
    rest.0 (subst (λ (t : List Entry). EachPlace t (λ before e. UpOf before e.kind)) (sym rest.1) (k.down.each.each log_lock)) in
    let all : Stays start es (at more log_lock) = subst (Stays start es) rest.1 s in
    (all.records, all.flushed)
