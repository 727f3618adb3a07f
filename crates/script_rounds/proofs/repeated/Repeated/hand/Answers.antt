use Rattle.std.proofs.Common.{ℕ, List, ◌+◌, ◌++◌, ◌<◌, ◌≤◌, ◌∙◌, ap, append-nil, arith, drop, get_or, length, subst, sym, take}
use Rattle.std.proofs.Math.Seq.{take-append-add}
use Rattle.std.proofs.KnownBytes.{Appends-trans}
use Rattle.std.specs.Io.KnownBytes.{Appends}
use Rattle.script_rounds.proofs.Fronts.{front_within, where_err}
use Rattle.script_rounds.proofs.Spreading.{before_none, no_places, place_behind, place_first, place_rest, place_step, spread_none, told_all, told_on}
use Rattle.script_rounds.specs.Woven.{Piece, own_before, pieces_at, spread}
use Rattle.script_rounds.proofs.repeated.Repeated.hand.Goals as goal

pub split_at-requires : goal.split_at-requires
split_at-requires g c =
    let s = c.self.inside in
    let i = c.loop-place.place-index in
    let items = c.as_slice-place-items.ensures.value in
    place_first s.bytes.items s.places.items i (get_or c.as_slice-place-items.result.now i 0) c.loop-place.rest.now
    (subst (λ (xs : List ℕ). i < length xs) items c.loop-place-test.true) (ap (λ (xs : List ℕ). get_or xs i 0) items) c.loop-place.invariant.within

pub returns-in_err-hand_both-clause-front : goal.returns-in_err-hand_both-clause-front
returns-in_err-hand_both-clause-front g c =
    let held = g.K.Sink.held in
    let s = c.self.inside in
    let i = c.loop-place.place-index in
    let items = c.as_slice-place-items.ensures.value in
    let place = get_or c.as_slice-place-items.result.now i 0 in
    let low = subst (λ (xs : List ℕ). i < length xs) items c.loop-place-test.true in
    let at = ap (λ (xs : List ℕ). get_or xs i 0) items in
    let rest = c.loop-place.rest.now in
    let own = c.split_at.result.0.now in
    let behind = c.split_at.result.1.now in
    let kept = c.loop-place.kept.items in
    let piece = c.as_slice.result.now in
    let more = spread (pieces_at s.bytes.items (drop (i + 1) s.places.items)) behind in
    let told = c.loop-place.invariant.told in
    let here = place_step s.bytes.items s.places.items i place rest own behind low at c.split_at.ensures.front c.split_at.ensures.back ∙ ap (λ (t : List ℕ). own ++ t ++ more) (sym c.as_slice.ensures.value) in
    let all = told_all told.0 kept (own ++ piece) more (spread (pieces_at s.bytes.items (drop i s.places.items)) rest) (c.args.kept.now.items ++ spread c.args.self.now c.args.own.now) told.1 here in
    let f = c.in_err-hand_both.ensures.front in
    let k = front_within f.0 (kept ++ (own ++ piece)) more in
    where_err c.from_residual.result (
      length told.0 + k.0,
      subst (Appends (held c.args.sink.now) (held c.hand_both.new.sink))
          (ap (λ (t : List ℕ). told.0 ++ t) (sym k.1) ∙ sym (take-append-add told.0 (kept ++ (own ++ piece) ++ more) k.0) ∙ ap (take (length told.0 + k.0)) (sym all))
          (Appends-trans (held c.args.sink.now) (held c.loop-place.sink) (held c.hand_both.new.sink) told.0 (take f.0 (kept ++ (own ++ piece))) told.2 f.1),
    )

pub loop-place-preserved : goal.loop-place-preserved
loop-place-preserved g c =
    let held = g.K.Sink.held in
    let s = c.self.inside in
    let i = c.loop-place.place-index in
    let items = c.as_slice-place-items.ensures.value in
    let place = get_or c.as_slice-place-items.result.now i 0 in
    let low = subst (λ (xs : List ℕ). i < length xs) items c.loop-place-test.true in
    let at = ap (λ (xs : List ℕ). get_or xs i 0) items in
    let rest = c.loop-place.rest.now in
    let own = c.split_at.result.0.now in
    let behind = c.split_at.result.1.now in
    let kept = c.loop-place.kept.items in
    let piece = c.as_slice.result.now in
    let more = spread (pieces_at s.bytes.items (drop (i + 1) s.places.items)) behind in
    let told = c.loop-place.invariant.told in
    let whole = c.args.kept.now.items ++ spread c.args.self.now c.args.own.now in
    let here = place_step s.bytes.items s.places.items i place rest own behind low at c.split_at.ensures.front c.split_at.ensures.back ∙ ap (λ (t : List ℕ). own ++ t ++ more) (sym c.as_slice.ensures.value) in
    let all = told_all told.0 kept (own ++ piece) more (spread (pieces_at s.bytes.items (drop i s.places.items)) rest) whole told.1 here in
    let done = c.in_ok-hand_both.ensures.ok in
    record {
      within = place_rest s.bytes.items s.places.items i place rest behind low at c.loop-place.invariant.within c.split_at.ensures.back;
      later = omega (arith, c.loop-place.invariant.later, c.hand_both.ensures.cause.later);
      left = place_behind s.bytes.items s.places.items i place rest behind (drop (own_before c.args.self.now) c.args.own.now) low at c.split_at.ensures.back c.loop-place.invariant.left;
      told = (
        told.0 ++ done.0,
        told_on told.0 done.0 c.hand_both.new.kept.items kept (own ++ piece) more whole done.1 all,
        Appends-trans (held c.args.sink.now) (held c.loop-place.sink) (held c.hand_both.new.sink) told.0 done.0 told.2 done.2,
      );
    }

pub returns-clause-rest : goal.returns-clause-rest
returns-clause-rest g c =
    let s = c.self.inside in
    let i = c.loop-place.place-index in
    let rest = c.loop-place.rest.now in
    let none = no_places s.bytes.items s.places.items i (subst (λ (xs : List ℕ). length xs ≤ i) c.as_slice-place-items.ensures.value c.loop-place-test.false) in
    sym (ap (λ (ms : List Piece). drop (own_before ms) rest) none ∙ ap (λ n. drop n rest) before_none) ∙ c.loop-place.invariant.left

pub returns-clause-ok : goal.returns-clause-ok
returns-clause-ok g c =
    let s = c.self.inside in
    let i = c.loop-place.place-index in
    let rest = c.loop-place.rest.now in
    let told = c.loop-place.invariant.told in
    let done = told.0 ++ c.loop-place.kept.items in
    let none = no_places s.bytes.items s.places.items i (subst (λ (xs : List ℕ). length xs ≤ i) c.as_slice-place-items.ensures.value c.loop-place-test.false) in
    (told.0, sym (append-nil done) ∙ sym (ap (λ (ms : List Piece). done ++ spread ms rest) none ∙ ap (λ (t : List ℕ). done ++ t) (spread_none rest)) ∙ told.1, told.2)
