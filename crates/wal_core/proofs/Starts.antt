-- What a volume that opens is: whole batches, with numbers that never pass the gate, ready once a closed gate is there.
use Rattle.std.proofs.Common.{◌≡◌, ◌≢◌, ◌⊎◌, inl, inr, ℕ, zero, suc, ◌+◌, ◌<◌, ◌≤◌, ◌^◌, Bool, true, false, cond, eqb, ltb, ◌&&◌, List, [], ◌∷◌, ◌++◌, length, take, drop, get_or, slice_index, Option, Some, None, Result, Ok, Err, refl, sym, ◌∙◌, ap, subst, arith}
use Rattle.std.proofs.lemmas.Bool.{ltb-false, cases_lt}
use Rattle.std.specs.Prelude.{All, replicate}
use Rattle.std.proofs.lemmas.List.Elements.{All-get_or}
use Rattle.std.proofs.lemmas.List.{length-append, length-take, length-drop, length-replicate, drop_at, get_or_past}
use Rattle.tx_events.specs.declared.record.Rec.{Rec}
use Rattle.tx_events.specs.declared.record.Counters.{Counters}
use Rattle.disk_core.specs.Volume.{Volume}
use Rattle.wal_records.specs.Reading.{◌>>=◌, rec_at}
use Rattle.wal_core.specs.Opening.{History, Opened, Walked, walked, next_number, may_follow, with_rec, joined, recs_in, recs_of, first_number, began, with_body, judged, batches_bytes, batch_bytes, is_new, opened_as, opened, AtRest, BeginsOpen, behind_gate}
use Rattle.wal_records.specs.Numbers.{le_bytes}
use Rattle.wal_core.specs.Log.{history_in, history_on, end_with, IsReady, OpensOnceClosed}
use Rattle.wal_records.proofs.Fields.{IsBytes, bind_some}
use Rattle.wal_core.proofs.News.{opens_new, opens_short}
use Rattle.wal_core.proofs.Rests.{RestsAs, walk_rests, rests_on, gate_closed}
use Rattle.wal_core.proofs.Walks.{walked_to, is_empty, opened_at, opened-at_rest, walked-at_rest, length-batch_bytes, judged_none, judged_cons, onward}

-- ---- numbers

pub under_test : (b : Bool) (p : Option History) (x : History) → cond b p None ≡ Some x → p ≡ Some x
under_test true p x e = e
under_test false p x e = absurd cc

pub not_under : (b : Bool) (p : Option History) (x : History) → cond b None p ≡ Some x → (b ≡ false) × (p ≡ Some x)
not_under true p x e = absurd cc
not_under false p x e = (refl, e)

is_some_of : (a b : History) → Some a ≡ Some b → a ≡ b
is_some_of a b e = cc

pub joined_next : (recs : List Rec) (h x : History) → joined h recs ≡ Some x → next_number x ≡ next_number h + length recs
joined_next [] h x e = ap next_number (sym (is_some_of h x e)) ∙ omega arith
joined_next (r ∷ recs) h x e =
    let more : next_number x ≡ next_number (with_rec h r) + length recs = joined_next recs (with_rec h r) x (under_test (may_follow h r) (joined (with_rec h r) recs) x e) in
    omega (arith, more, length-append h.recs (r ∷ []))

no_more_recs : (n : ℕ) (bytes : List ℕ) (recs : List Rec) → recs_in n bytes ≡ Some recs → length recs ≤ n
unfolding recs_in
no_more_recs n [] recs e = let none : [] ≡ recs = cc in omega (arith, ap length (sym none))
no_more_recs zero (b ∷ bytes) recs e = absurd cc
no_more_recs (suc n) (b ∷ bytes) recs e =
    let f = bind_some (rec_at (b ∷ bytes)) (λ first. recs_in n first.1 >>= λ others. Some (first.0 ∷ others)) recs e in
    let o = bind_some (recs_in n f.0.1) (λ others. Some (f.0.0 ∷ others)) recs f.2 in
    let is : f.0.0 ∷ o.0 ≡ recs = cc in
    omega (arith, no_more_recs n f.0.1 o.0 o.1, ap length is)

body_more : (at : ℕ) (h : History) (body : List ℕ) (x : History) → with_body at (Some h) body ≡ Some x → next_number x ≤ next_number h + length body
body_more at h body x e =
    let r = bind_some (recs_of body) (joined h) x e in
    omega (arith, joined_next r.0 h x r.2, no_more_recs (length body) body r.0 r.1)

body_first : (at : ℕ) (body : List ℕ) (x : History) → with_body at None body ≡ Some x → next_number x ≤ at + length body
body_first at body x e =
    let r = bind_some (recs_of body) (λ recs. first_number recs >>= λ number. cond (ltb at number) None (joined (began number) recs)) x e in
    let f = bind_some (first_number r.0) (λ number. cond (ltb at number) None (joined (began number) r.0)) x r.2 in
    let u = not_under (ltb at f.0) (joined (began f.0) r.0) x f.2 in
    omega (arith, joined_next r.0 (began f.0) x u.1, no_more_recs (length body) body r.0 r.1, ltb-false at f.0 u.0)

length-batches-more : (b : List ℕ) (bodies : List (List ℕ)) → length (batches_bytes (b ∷ bodies)) ≡ 5 + length b + length (batches_bytes bodies)
length-batches-more b bodies = omega (arith, length-append (batch_bytes b) (batches_bytes bodies), length-batch_bytes b)

abbrev judged_to : History → Result (Option History) ℕ
judged_to h = Ok (Some h)

abbrev judged_nothing : Result (Option History) ℕ
judged_nothing = Ok None

some_judged : (a b : History) → judged_to a ≡ judged_to b → a ≡ b
some_judged a b e = cc

none_judged : (a : History) → judged_nothing ≡ judged_to a → ⊥
none_judged a e = cc

judged_more : (bodies : List (List ℕ)) (at : ℕ) (h x : History) → judged bodies at (Some h) ≡ Ok (Some x) → next_number x ≤ next_number h + length (batches_bytes bodies)
judged_more [] at h x e =
    let same : h ≡ x = some_judged h x (sym (judged_none at (Some h)) ∙ e) in
    omega (arith, ap next_number same)
judged_more (b ∷ bodies) at h x e =
    let o = onward at (with_body at (Some h) b) (judged bodies (at + (5 + length b))) (Some x) (sym (judged_cons b bodies at (Some h)) ∙ e) in
    omega (arith, judged_more bodies (at + (5 + length b)) o.0 x o.2, body_more at h b o.0 o.1, length-batches-more b bodies)

pub judged_first : (bodies : List (List ℕ)) (at : ℕ) (x : History) → judged bodies at None ≡ Ok (Some x) → next_number x ≤ at + length (batches_bytes bodies)
judged_first [] at x e = absurd (none_judged x (sym (judged_none at None) ∙ e))
judged_first (b ∷ bodies) at x e =
    let o = onward at (with_body at None b) (judged bodies (at + (5 + length b))) (Some x) (sym (judged_cons b bodies at None) ∙ e) in
    omega (arith, judged_more bodies (at + (5 + length b)) o.0 x o.2, body_first at b o.0 o.1, length-batches-more b bodies)

-- ---- what a volume that opens is

abbrev opened_to : History → ℕ → Result Opened ℕ
opened_to h gate = Ok (record { history = Some h; gate = gate })

pub record Parts (start : ℕ) (w : Walked) (r : Result (Option History) ℕ) (h : History) (gate : ℕ) : Type 0 where
  pub judged_is : r ≡ Ok (Some h)
  pub whole : w.whole ≡ true
  pub gate_is : gate ≡ start + w.reach

parts_as : (start : ℕ) (w : Walked) (t : Bool) (k h : History) (gate : ℕ) → w.whole ≡ t → cond t (Ok (record { history = Some k; gate = start + w.reach })) (Err (start + w.reach)) ≡ opened_to h gate
    → Parts start w (Ok (Some k)) h gate
parts_as start w true k h gate whole e = record { judged_is = ap judged_of e; whole = whole; gate_is = sym (ap gate_of e) }
  where
    judged_of : Result Opened ℕ → Result (Option History) ℕ
    judged_of (Ok o) = Ok o.history
    judged_of (Err at) = Err at

    gate_of : Result Opened ℕ → ℕ
    gate_of (Ok o) = o.gate
    gate_of (Err at) = 0
parts_as start w false k h gate whole e = absurd cc

pub parts_by : (start : ℕ) (w : Walked) (r : Result (Option History) ℕ) (h : History) (gate : ℕ) → opened_as start w r ≡ opened_to h gate → Parts start w r h gate
parts_by start w (Err at) h gate e = absurd cc
parts_by start w (Ok None) h gate e = absurd cc
parts_by start w (Ok (Some k)) h gate e = parts_as start w w.whole k h gate refl e

past_new : (t : Bool) (r : Result Opened ℕ) (h : History) (gate : ℕ) → cond t (Ok (record { history = None; gate = 0 })) r ≡ opened_to h gate → r ≡ opened_to h gate
past_new true r h gate e = absurd (no (ap history_in e))
  where
    no : None ≡ Some h → ⊥
    no e = cc
past_new false r h gate e = e

pub parts_of : (v : Volume) (h : History) (gate : ℕ) → opened v ≡ opened_to h gate → Parts v.start (walked v) (judged (walked v).bodies v.start None) h gate
unfolding opened
parts_of v h gate e =
    parts_by v.start (walked v) (judged (walked v).bodies v.start None) h gate (past_new (is_new v) (opened_as v.start (walked v) (judged (walked v).bodies v.start None)) h gate e)

has_some : (bodies : List (List ℕ)) (at : ℕ) (h : History) → judged bodies at None ≡ judged_to h → is_empty bodies ≡ false
has_some [] at h e = absurd (none_judged h (sym (judged_none at None) ∙ e))
has_some (b ∷ bodies) at h e = refl

and_no : (a b : Bool) → b ≡ false → (a && b) ≡ false
and_no true false e = refl
and_no false false e = refl
and_no a true e = absurd cc

pub opens_to : (start : ℕ) (bodies : List (List ℕ)) (h : History) (gate : ℕ) → judged bodies start None ≡ judged_to h → gate ≡ start + length (batches_bytes bodies) → opened_at start bodies ≡ opened_to h gate
opens_to start bodies h gate is place =
    ap (λ (b : Bool). cond b (Ok (record { history = None; gate = 0 })) (opened_as start (walked_to bodies) (judged bodies start None))) (and_no (eqb start 0) (is_empty bodies) (has_some bodies start h is))
    ∙ ap (opened_as start (walked_to bodies)) is ∙ ap (opened_to h) (sym place)

pub old_once_closed : (v : Volume) (h : History) (gate : ℕ) → IsBytes (drop v.start v.bytes) → opened v ≡ opened_to h gate → OpensOnceClosed gate (Some h.counters) (next_number h) v
old_once_closed v h gate fit e =
    let w : Walked = walked v in let xs : List ℕ = drop v.start v.bytes in
    let p = parts_of v h gate e in
    let rests : RestsAs w xs = walk_rests (length xs + 1) xs fit (omega arith) p.whole in
    let reach : w.reach ≡ length (batches_bytes w.bodies) = omega (arith, ap length rests.front, length-take w.reach xs, rests.within) in
    let place : gate ≡ v.start + w.reach = p.gate_is in
    let counted = judged_first w.bodies v.start h p.judged_is in
    let some : 0 < w.reach = positive w.bodies reach (has_some w.bodies v.start h p.judged_is) in
    record {
      within = omega (arith, place, rests.within, length-drop v.start v.bytes, some);
      closed = λ long lt. subst (λ (k : ℕ). slice_index v.bytes k ≢ 1) (sym place) (gate_closed v w rests (omega (arith, place, lt)));
      again = λ u start front within shut.
          let rest_0 : AtRest u w.bodies (v.start + w.reach) = rests_on v u w rests start (subst (λ (k : ℕ). take k u.bytes ≡ take k v.bytes) place front) (omega (arith, place, within)) (subst (λ (k : ℕ). slice_index u.bytes k ≢ 1) place shut) in
          let rest : AtRest u w.bodies gate = subst (λ (k : ℕ). AtRest u w.bodies k) (sym place) rest_0 in
          let opens : opened u ≡ opened_to h gate =
          opened-at_rest u w.bodies gate rest ∙ ap (λ (k : ℕ). opened_at k w.bodies) start ∙ opens_to v.start w.bodies h gate p.judged_is (omega (arith, place, reach)) in
          record { opens = opens ∙ sym e; batches = λ some. ap (λ (x : Walked). x.bodies) (walked-at_rest u w.bodies gate rest); ready = ready_so u w.bodies gate h rest opens };
    }
  where
    positive : (bodies : List (List ℕ)) {n : ℕ} → n ≡ length (batches_bytes bodies) → is_empty bodies ≡ false → 0 < n
    positive [] is some = absurd cc
    positive (b ∷ bodies) is some = omega (arith, is, length-batches-more b bodies)

    ready_so : (u : Volume) (bodies : List (List ℕ)) (gate : ℕ) (h : History) → AtRest u bodies gate → opened u ≡ opened_to h gate → IsReady gate [] (Some h.counters) (next_number h) u
    ready_so u bodies gate h rest opens =
        let there : history_on u ≡ Some h = ap history_in opens in
        record {
          at_rest = subst (λ (b : List (List ℕ)). AtRest u b gate) (sym (ap (λ (x : Walked). x.bodies) (walked-at_rest u bodies gate rest))) rest;
          opens = opens ∙ (λ i. Ok (record { history = sym there i; gate = gate }));
          ends = ap (λ (o : Option History). end_with gate o []) there;
        }

pub old_numbers : (v : Volume) (h : History) (gate : ℕ) → IsBytes (drop v.start v.bytes) → opened v ≡ opened_to h gate → next_number h ≤ gate
old_numbers v h gate fit e =
    let w : Walked = walked v in let xs : List ℕ = drop v.start v.bytes in
    let p = parts_of v h gate e in
    let rests : RestsAs w xs = walk_rests (length xs + 1) xs fit (omega arith) p.whole in
    omega (arith, ap length rests.front, length-take w.reach xs, rests.within, p.gate_is, judged_first w.bodies v.start h p.judged_is)

abbrev opened_new : Result Opened ℕ
opened_new = Ok (record { history = None; gate = 0 })

pub new_once_closed : (v : Volume) → v.start ≡ 0 → opened v ≡ Ok (record { history = None; gate = 0 }) → (1 < length v.bytes → slice_index v.bytes 0 ≢ 1) → OpensOnceClosed 0 None 0 v
new_once_closed v zero_start e closed = record {
  within = omega arith;
  closed = λ long lt. closed (long refl);
  again = λ u start front within shut.
      let here : u.start ≡ 0 = start ∙ zero_start in
      let rest : AtRest u [] 0 = record {
        begins = omega (arith, here);
        front = ap (λ (k : ℕ). drop k (take 0 u.bytes)) here;
        fits = tt;
        within = within;
        closed = shut;
      } in
      let opens : opened u ≡ opened_new = opened-at_rest u [] 0 rest ∙ ap (λ (k : ℕ). opened_at k []) here in
      let there : history_on u ≡ None = ap history_in opens in
      record {
        opens = opens ∙ sym e;
        batches = λ some. absurd cc;
        ready = record {
          at_rest = subst (λ (b : List (List ℕ)). AtRest u b 0) (sym (ap (λ (x : Walked). x.bodies) (walked-at_rest u [] 0 rest))) rest;
          opens = opens ∙ (λ i. Ok (record { history = sym there i; gate = 0 }));
          ends = ap (λ (o : Option History). end_with 0 o []) there;
        };
      };
}

-- ---- what was read

pub once_closed_as : (gate : ℕ) (counters : Option Counters) (next : ℕ) (v : Volume) → gate ≡ 0 → counters ≡ None → next ≡ 0 → OpensOnceClosed 0 None 0 v → OpensOnceClosed gate counters next v
once_closed_as gate counters next v g c n goes =
    subst (λ (k : ℕ). OpensOnceClosed k counters next v) (sym g) (subst (λ (o : Option Counters). OpensOnceClosed 0 o next v) (sym c) (subst (λ (k : ℕ). OpensOnceClosed 0 None k v) (sym n) goes))

begins_open : (l : List ℕ) → 1 < length l → slice_index l 0 ≡ 1 → BeginsOpen l
begins_open [] some e = absurd (omega arith)
begins_open (g ∷ l) some e = e

pub unwritten_once_closed : (v : Volume) (start : ℕ) (bytes : List ℕ) → v.start ≡ start → drop v.start v.bytes ≡ bytes → (start ≡ 0) × ((length bytes ≤ 1) ⊎ (BeginsOpen bytes → ⊥)) → OpensOnceClosed 0 None 0 v
unwritten_once_closed v start bytes from is un =
    let whole : v.bytes ≡ bytes = ap (λ (k : ℕ). drop k v.bytes) (sym (from ∙ un.0)) ∙ is in
    new_once_closed v (from ∙ un.0) (opens_new v start bytes from is un) (λ long opens. elim un.1 [
      | inl short ↦ absurd (omega (arith, ap length whole, short, long))
      | inr shut ↦ absurd (shut (subst BeginsOpen whole (begins_open v.bytes long opens)))
    ])

pub short_once_closed : (v : Volume) → v.start ≡ 0 → length v.bytes ≤ 1 → OpensOnceClosed 0 None 0 v
short_once_closed v zero_start short = new_once_closed v zero_start (opens_short v zero_start short) (λ long. absurd (omega (arith, short, long)))

pub fits_all : (xs : List ℕ) → All (λ b. b < 2 ^ 8) xs → IsBytes xs
fits_all xs all i = elim (cases_lt i (length xs)) [
  | inl lt ↦ All-get_or (λ b. b < 2 ^ 8) xs i 0 lt all
  | inr ge ↦ let past : get_or xs i 0 ≡ 0 = get_or_past xs i 0 ge in omega (arith, past)
]

-- a volume with these bytes from its start on
abbrev pub volume_of : ℕ → List ℕ → Volume
volume_of start bytes = record { start = start; bytes = replicate start 0 ++ bytes }

pub bytes_from : (start : ℕ) (bytes : List ℕ) → drop start (replicate start 0 ++ bytes) ≡ bytes
bytes_from start bytes = drop_at (replicate start 0) bytes start (length-replicate start 0)

pub nothing_behind : replicate 5 0 ≡ behind_gate []
unfolding le_bytes
nothing_behind = refl
