-- A checkpoint alone in the last batch: a log can begin with it.
use Rattle.std.proofs.Common.{◌≡◌, ◌⊎◌, inl, inr, ℕ, ◌+◌, ◌-◌, ◌<◌, ◌≤◌, ◌^◌, max, Bool, true, false, cond, ltb, eqb, List, [], ◌∷◌, ◌++◌, length, take, drop, Option, Some, None, Ok, refl, sym, ◌∙◌, ap, subst, arith}
use Rattle.std.specs.List.{AllByRecursion, slice_get}
use Rattle.std.proofs.lemmas.Bool.{le-ltb, ltb-false, eq-eqb, eqb-true, and_parts, and_from}
use Rattle.std.proofs.lemmas.List.{length-append, drop-drop, drop_at, append-nil}
use Rattle.tx_events.specs.declared.record.Rec.{Rec}
use Rattle.tx_events.specs.declared.record.Counters.{Counters}
use Rattle.tx_events.specs.After.{after_record}
use Rattle.disk_core.specs.Volume.{Volume, Forgot}
use Rattle.wal_core.specs.BaseTest.{is_base_of}
use Rattle.wal_records.specs.Reading.{◌>>=◌}
use Rattle.wal_core.specs.Opening.{History, Walked, walked, AtRest, batch_bytes, batches_bytes, next_number, may_follow, with_rec, joined, recs_of, first_number, began, no_counters, with_body, going_on, judged, opened}
use Rattle.wal_core.specs.Log.{history_in, history_on, bytes_of, end_with, counters_or_none, MayAppend, IsReady}
use Rattle.wal_records.specs.Lawful.{are_lawful}
use Rattle.wal_core.specs.Checkpoint.{IsLastCheckpoint, record_of, begun_with, kept_from, numbered, MayBegin}
use Rattle.wal_core.specs.declared.checkpoint.LastCheckpoint.{LastCheckpoint}
use Rattle.wal_core.proofs.Gates.{batches-push}
use Rattle.wal_core.proofs.Walks.{length-batch_bytes, gate_is, walked-at_rest, opened-at_rest, recs_of-bytes, judged_none, judged_cons}
use Rattle.wal_core.proofs.Flush.{goes, opens_more}
use Rattle.wal_core.proofs.Append.{continued, with_body-recs, ready-push}
use Rattle.wal_records.proofs.LawfulTests.{all_lawful}
use Rattle.wal_core.proofs.Starts.{opens_to, joined_next, not_under}

-- ---- the last batch on its own

last_few : (bodies : List (List ℕ)) (body : List ℕ) → AllByRecursion (λ b. length b < 2 ^ 32) (bodies ++ body ∷ []) → length body < 2 ^ 32
last_few [] body all = all.0
last_few (b ∷ bodies) body all = last_few bodies body all.1

module _ (w : Volume) (bodies : List (List ℕ)) (body : List ℕ) (gate gate_2 : ℕ) (place : gate_2 ≡ gate + (5 + length body)) (rest : AtRest w (bodies ++ body ∷ []) gate_2) where
  pub stands_at : w.start + length (batches_bytes bodies) ≡ gate
  stands_at = omega (arith, gate_is w (bodies ++ body ∷ []) gate_2 rest, ap length (batches-push bodies body), length-append (batches_bytes bodies) (batch_bytes body), length-batch_bytes body, place)

  pub alone_rest : AtRest (kept_from gate w) (body ∷ []) gate_2
  alone_rest = record {
    begins = omega (arith, place);
    front = ap (λ (k : ℕ). drop k (take gate_2 w.bytes)) (sym stands_at)
        ∙ sym (drop-drop (length (batches_bytes bodies)) w.start (take gate_2 w.bytes))
        ∙ ap (λ (l : List ℕ). drop (length (batches_bytes bodies)) l) (rest.front ∙ batches-push bodies body)
        ∙ drop_at (batches_bytes bodies) (batch_bytes body) (length (batches_bytes bodies)) refl
        ∙ sym (append-nil (batch_bytes body));
    fits = (last_few bodies body rest.fits, tt);
    within = rest.within;
    closed = rest.closed;
  }

  pub alone_opens : (x : History) → with_body gate None body ≡ Some x → opened (kept_from gate w) ≡ Ok (record { history = Some x; gate = gate_2 })
  alone_opens x comes =
      let so : judged (body ∷ []) gate None ≡ Ok (Some x) =
      judged_cons body [] gate None ∙ ap (λ (o : Option History). going_on gate o (judged [] (gate + (5 + length body)))) comes ∙ judged_none (gate + (5 + length body)) (Some x) in
      opened-at_rest (kept_from gate w) (body ∷ []) gate_2 alone_rest ∙ opens_to gate (body ∷ []) x gate_2 so (gate_is (kept_from gate w) (body ∷ []) gate_2 alone_rest)

-- ---- its record

some_is : (h x : History) → Some h ≡ Some x → h ≡ x
some_is h x e = cc

tested : (b : Bool) (y x : History) → cond b (Some y) None ≡ Some x → (b ≡ true) × (y ≡ x)
tested true y x e = (refl, some_is y x e)
tested false y x e = absurd cc

passed : (b : Bool) (p : Option History) (x : History) → cond b None p ≡ Some x → p ≡ Some x
passed true p x e = absurd cc
passed false p x e = e

begun_by : (gate : ℕ) (r : Rec) (x : History) (n : Option ℕ) → (n >>= λ number. cond (ltb gate number) None (joined (began number) (r ∷ []))) ≡ Some x → (y : History) × ((may_follow y r ≡ true) × (with_rec y r ≡ x))
begun_by gate r x None e = absurd cc
begun_by gate r x (Some n) e = (began n, tested (may_follow (began n) r) (with_rec (began n) r) x (passed (ltb gate n) (joined (began n) (r ∷ [])) x e))

-- what stood before a record that came next
came_next : (gate : ℕ) (h : Option History) (r : Rec) (x : History) → continued gate h (r ∷ []) ≡ Some x → (y : History) × ((may_follow y r ≡ true) × (with_rec y r ≡ x))
came_next gate (Some h) r x e = (h, tested (may_follow h r) (with_rec h r) x e)
came_next gate None r x e = begun_by gate r x (first_number (r ∷ [])) e

counters_first : (k : LastCheckpoint) → after_record no_counters (record_of k) ≡ k.counters
counters_first k =
    let c : Counters = k.counters in
    λ i. record { next = none c.next i; oldest = none c.oldest i; multi = none c.multi i; offset = none c.offset i; oldest_multi = none c.oldest_multi i; oldest_offset = none c.oldest_offset i }
  where
    none : (n : ℕ) → max 0 n ≡ n
    none n = omega arith

begins_alone : (k : LastCheckpoint) (gate : ℕ) → k.number ≤ gate → is_base_of k.counters ≡ true → continued gate None (record_of k ∷ []) ≡ Some (begun_with k)
begins_alone k gate le base =
    let low : ltb gate k.number ≡ false = le-ltb gate k.number le in
    let again : eqb k.number (k.number + 0) ≡ true = eq-eqb k.number (k.number + 0) (omega arith) in
    let may : may_follow (began k.number) (record_of k) ≡ true = and_from _ _ again (ap is_base_of (counters_first k) ∙ base) in
    ap (λ (c : Bool). cond c None (cond (may_follow (began k.number) (record_of k)) (Some (with_rec (began k.number) (record_of k))) None)) low
    ∙ ap (λ (c : Bool). cond c (Some (with_rec (began k.number) (record_of k))) None) may
    ∙ ap (λ (c : Counters). Some (record { first = k.number; recs = record_of k ∷ []; counters = c })) (counters_first k)

some_counters : (a b : Counters) → Some a ≡ Some b → a ≡ b
some_counters a b e = cc

get_last : (recs : List Rec) (r : Rec) → slice_get (recs ++ r ∷ []) (length recs) ≡ Some r
get_last [] r = refl
get_last (x ∷ recs) r = get_last recs r

numbered_last : (y : History) (r : Rec) (n : ℕ) → n ≡ next_number y → numbered n (Some (with_rec y r)) ≡ Some r
numbered_last y r n is =
    let low : ltb n y.first ≡ false = le-ltb n y.first (omega (arith, is)) in
    let place : n - y.first ≡ length y.recs = omega (arith, is) in
    ap (λ (b : Bool). cond b None (slice_get (y.recs ++ r ∷ []) (n - y.first))) low ∙ ap (slice_get (y.recs ++ r ∷ [])) place ∙ get_last y.recs r

-- the number of the checkpoint isn't past its gate, where those before it aren't
low_number : (k : LastCheckpoint) (before : Option History) (x : History) → continued k.gate before (record_of k ∷ []) ≡ Some x → ((y : History) → before ≡ Some y → next_number y ≤ k.gate) → next_number x ≤ k.gate + 1
low_number k (Some y) x comes low = omega (arith, joined_next (record_of k ∷ []) y x comes, low y refl)
low_number k None x comes low =
    let u = not_under (ltb k.gate k.number) (joined (began k.number) (record_of k ∷ [])) x comes in
    omega (arith, joined_next (record_of k ∷ []) (began k.number) x u.1, ltb-false k.gate k.number u.0)

-- ---- once it is the last batch

-- the volume's last batch, behind what this history came of, is the checkpoint
pub stands_last : (k : LastCheckpoint) (w : Volume) (bodies : List (List ℕ)) (body : List ℕ) (gate : ℕ) (before : Option History) (x : History) → recs_of body ≡ Some (record_of k ∷ []) → with_body k.gate before body ≡ Some x
    → ((y : History) → before ≡ Some y → next_number y ≤ k.gate) → x.counters ≡ k.counters → gate ≡ k.gate + (5 + length body) → AtRest w (bodies ++ body ∷ []) gate → history_on w ≡ Some x → MayBegin k gate [] (Some k.counters) (next_number x) w
stands_last k w bodies body gate before x one comes low after place rest there =
    let r : Rec = record_of k in
    let by_recs : continued k.gate before (r ∷ []) ≡ Some x = sym (with_body-recs k.gate before body (r ∷ []) one) ∙ comes in
    let y = came_next k.gate before r x by_recs in
    let may = and_parts _ _ y.1.0 in
    let number : k.number ≡ next_number y.0 = eqb-true k.number (next_number y.0) may.0 in
    let next : k.number + 1 ≡ next_number x = omega (arith, number, ap next_number (sym y.1.1), length-append y.0.recs (r ∷ [])) in
    let counters : after_record y.0.counters r ≡ k.counters = ap (λ (h : History). h.counters) y.1.1 ∙ after in
    let base : is_base_of k.counters ≡ true = ap is_base_of (sym counters) ∙ may.1 in
    let alone : with_body k.gate None body ≡ Some (begun_with k) =
    with_body-recs k.gate None body (r ∷ []) one ∙ begins_alone k k.gate (omega (arith, next, low_number k before x by_recs low)) base in
    let u : Volume = kept_from k.gate w in
    let rest_u : AtRest u (body ∷ []) gate = alone_rest w bodies body k.gate gate place rest in
    let opens : opened u ≡ Ok (record { history = Some (begun_with k); gate = gate }) = alone_opens w bodies body k.gate gate place rest (begun_with k) alone in
    let there_u : history_on u ≡ Some (begun_with k) = ap history_in opens in
    let same : (walked u).bodies ≡ body ∷ [] = ap (λ (v : Walked). v.bodies) (walked-at_rest u (body ∷ []) gate rest_u) in
    record {
      has = ap (numbered k.number) (there ∙ ap (λ (h : History). Some h) (sym y.1.1)) ∙ numbered_last y.0 r k.number number;
      not_past = omega (arith, stands_at w bodies body k.gate gate place rest);
      ready = record {
        at_rest = subst (λ (b : List (List ℕ)). AtRest u b gate) (sym same) rest_u;
        opens = opens ∙ (λ i. Ok (record { history = sym there_u i; gate = gate }));
        ends = ap (λ (o : Option History). end_with gate o []) there_u ∙ (λ i. Some (record { counters = Some k.counters; next = next i }));
      };
      alone = there_u;
    }

-- the same, as a log's state tells it
pub turned : (k : LastCheckpoint) (gate : ℕ) (left : List Rec) (counters : Option Counters) (next : ℕ) (x : History) (w : Volume) → left ≡ [] → counters ≡ Some k.counters → next ≡ next_number x → MayBegin k gate [] (Some k.counters) (next_number x) w → MayBegin k gate left counters next w
turned k gate left counters next x w none after last begins =
    subst (λ (p : List Rec). MayBegin k gate p counters next w) (sym none) (subst (λ (o : Option Counters). MayBegin k gate [] o next w) (sym after) (subst (λ (n : ℕ). MayBegin k gate [] (Some k.counters) n w) (sym last) begins))

-- ---- once it is flushed

one_rec : (n : ℕ) (recs : List Rec) (r : Rec) → drop n recs ≡ r ∷ [] → length recs ≡ n + 1
one_rec ℕ.zero recs r e = ap length e
one_rec (ℕ.suc n) [] r e = absurd cc
one_rec (ℕ.suc n) (x ∷ recs) r e = omega (arith, one_rec n recs r e)

pub flushed_alone : (k : LastCheckpoint) (v w : Volume) (gate gate_2 from flushed : ℕ) (recs left : List Rec) (counters : Option Counters) (body : List ℕ) → IsLastCheckpoint gate (drop flushed recs) counters (Some k)
    → are_lawful (drop flushed recs) ≡ true → IsReady gate (drop flushed recs) counters (from + length recs) v → from + flushed ≤ gate → body ≡ bytes_of (drop flushed recs) → gate_2 ≡ gate + (5 + length (bytes_of (drop flushed recs)))
    → AtRest w ((walked v).bodies ++ body ∷ []) gate_2 → left ≡ [] → MayBegin k gate_2 left counters (from + length recs) w
flushed_alone k v w gate gate_2 from flushed recs left counters body last lawful ready low is place rest none =
    let r : Rec = record_of k in let pending : List Rec = drop flushed recs in let next : ℕ = from + length recs in
    let long : length recs ≡ flushed + 1 = one_rec flushed recs r last.1.0 in
    let some : 0 < length pending = omega (arith, ap length last.1.0) in
    let g = goes gate pending counters next v some ready in
    let one : recs_of body ≡ Some (r ∷ []) = ap recs_of is ∙ recs_of-bytes pending (all_lawful pending lawful) ∙ ap (λ (l : List Rec). Some l) last.1.0 in
    let comes : with_body k.gate (history_on v) body ≡ Some g.there = (λ i. with_body (last.0 i) (history_on v) (is i)) ∙ g.comes in
    let after : g.there.counters ≡ k.counters = some_counters g.there.counters k.counters (sym g.counters_are ∙ last.1.1) in
    let rest_2 : AtRest w ((walked v).bodies ++ bytes_of pending ∷ []) (gate + (5 + length (bytes_of pending))) =
    subst (λ (n : ℕ). AtRest w ((walked v).bodies ++ bytes_of pending ∷ []) n) place (subst (λ (b : List ℕ). AtRest w ((walked v).bodies ++ b ∷ []) gate_2) is rest) in
    let there : history_on w ≡ Some g.there = ap history_in (opens_more gate pending counters next some v ready g w rest_2) in
    let before : (y : History) → history_on v ≡ Some y → next_number y ≤ k.gate = λ y e.
    let more : next_number g.there ≡ next_number y + length pending = joined_next pending y g.there (sym (with_body-recs gate (Some y) (bytes_of pending) pending (recs_of-bytes pending (all_lawful pending lawful))) ∙ ap (λ (o : Option History). with_body gate o (bytes_of pending)) (sym e) ∙ g.comes) in
    omega (arith, more, g.next_is, long, ap length last.1.0, low, last.0) in
    turned k gate_2 left counters next g.there w none last.1.1 g.next_is
    (stands_last k w (walked v).bodies body gate_2 (history_on v) g.there one comes before after (omega (arith, place, last.0, ap length is)) rest there)

-- ---- one record more

pub begins-push : (k : LastCheckpoint) (gate : ℕ) (counters : Option Counters) (next : ℕ) (r : Rec) → MayAppend counters next r → (pending pending_2 : List Rec) (counters_2 : Option Counters) (next_2 : ℕ) (v : Volume)
    → pending_2 ≡ pending ++ r ∷ [] → counters_2 ≡ Some (after_record (counters_or_none counters) r) → next_2 ≡ next + 1 → are_lawful pending ≡ true → MayBegin k gate pending counters next v → MayBegin k gate pending_2 counters_2 next_2 v
begins-push k gate counters next r may pending pending_2 counters_2 next_2 v p c n lawful begins = record {
  has = begins.has;
  not_past = begins.not_past;
  ready = ready-push gate counters next r may pending pending_2 counters_2 next_2 (kept_from k.gate v) p c n lawful begins.ready;
  alone = begins.alone;
}

-- ---- what stands before it is forgotten, or isn't

pub record Forgotten (k : LastCheckpoint) (gate : ℕ) (pending : List Rec) (counters : Option Counters) (next : ℕ) (d c : Volume) : Type 0 where
  pub ready : IsReady gate pending counters next c
  pub begins : MayBegin k gate pending counters next c
  pub opens : (opened c ≡ opened d) ⊎ (opened c ≡ Ok (record { history = Some (begun_with k); gate = gate }))

pub forgotten : (k : LastCheckpoint) (gate : ℕ) (pending : List Rec) (counters : Option Counters) (next : ℕ) (d c : Volume) → Forgot k.gate d c → IsReady gate pending counters next d → MayBegin k gate pending counters next d
    → Forgotten k gate pending counters next d c
forgotten k gate pending counters next d c forgot ready begins = elim forgot.start [
  | inl stays ↦
      let same : c ≡ d = λ i. record { start = stays i; bytes = forgot.bytes i } in
      record {
        ready = subst (λ (x : Volume). IsReady gate pending counters next x) (sym same) ready;
        begins = subst (λ (x : Volume). MayBegin k gate pending counters next x) (sym same) begins;
        opens = inl (ap opened same);
      }
  | inr raised ↦
      let here : c.start ≡ k.gate = omega (arith, raised, begins.not_past) in
      let own : numbered k.number (Some (begun_with k)) ≡ Some (record_of k) = numbered_last (began k.number) (record_of k) k.number (omega arith) in
      let same : c ≡ kept_from k.gate d = λ i. record { start = here i; bytes = forgot.bytes i } in
      record {
        ready = subst (λ (x : Volume). IsReady gate pending counters next x) (sym same) begins.ready;
        begins = subst (λ (x : Volume). MayBegin k gate pending counters next x) (sym same) (record { has = ap (numbered k.number) begins.alone ∙ own; not_past = omega arith; ready = begins.ready; alone = begins.alone });
        opens = inr (ap opened same ∙ begins.ready.opens ∙ ap (λ (h : Option History). Ok (record { history = h; gate = gate })) begins.alone);
      }
]
