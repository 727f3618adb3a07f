use Rattle.std.proofs.Common.{◌≡◌, ℕ, arith, ap, subst, slice_index, length, refl, rules, ◌∙◌, ◌/◌}
use Rattle.tx_events.specs.Ids.{low_half}
use Rattle.store_pages.specs.Layouts.{xact_page_of}
use Rattle.slru_bank.specs.Calls.{CallsBank, pages_of}
use Rattle.slru_bank.specs.States.{state_number}
use Rattle.slru_bank.specs.Changes.{SetsStates}
use Rattle.slru_bank.proofs.ManyStates.{calls_more, one_more_by, none_yet, page_shared, refused_first}
use Rattle.slru_bank.proofs.states.set_states.Goals as goal

pub loop-i-init : goal.loop-i-init
loop-i-init g c = record {
  within = omega arith;
  sets = λ told. none_yet c.args.ids.now (state_number c.args.state) (pages_of c.args.bank.now);
  untouched = λ none. refl;
  calls = λ some. absurd (omega arith);
}

pub loop-i-preserved : goal.loop-i-preserved
loop-i-preserved g c =
    let was = c.loop-i.invariant in
    let is = c.low.ensures ∙ ap low_half c.index-ids-i.is in
    let page : c.low.result.number / 32768 ≡ xact_page_of (slice_index c.args.ids.now 0) = page_shared c.args.ids.now c.loop-i.i c.index-ids-i.result c.low.result.number c.loop-i-test.true c.requires.one_page is in
    let calls = rw page at c.set_state.ensures.bank in
    record {
      within = omega arith;
      sets = λ told. one_more_by c.args.ids.now c.loop-i.i (state_number c.args.state) c.index-ids-i.result c.low.result.number (pages_of c.args.bank.now) (pages_of c.loop-i.bank) (pages_of c.set_state.new.bank) c.loop-i-test.true c.requires.one_page is (was.sets told) (c.in_ok-set_state.ensures.ok told);
      untouched = λ none. absurd (omega arith);
      calls = λ some. subst (λ r. CallsBank (xact_page_of (slice_index c.args.ids.now 0)) c.args.bank.now c.set_state.new.bank r) c.in_ok-set_state.was (calls_more (xact_page_of (slice_index c.args.ids.now 0)) c.loop-i.i c.args.bank.now c.loop-i.bank c.set_state.new.bank c.set_state.result was.untouched was.calls calls);
    }

pub returns-in_err-set_state-clause-err : goal.returns-in_err-set_state-clause-err
returns-in_err-set_state-clause-err g c told =
    let was = c.loop-i.invariant in
    let page : c.low.result.number / 32768 ≡ xact_page_of (slice_index c.args.ids.now 0) = page_shared c.args.ids.now c.loop-i.i c.index-ids-i.result c.low.result.number c.loop-i-test.true c.requires.one_page (c.low.ensures ∙ ap low_half c.index-ids-i.is) in
    let calls = rw page at c.set_state.ensures.bank in
    let none = refused_first (xact_page_of (slice_index c.args.ids.now 0)) c.loop-i.i c.args.bank.now c.loop-i.bank c.set_state.new.bank c.set_state.result was.untouched was.calls calls (c.set_state.ensures.err told) in
    search (rules, none)

pub returns-in_err-set_state-clause-bank : goal.returns-in_err-set_state-clause-bank
returns-in_err-set_state-clause-bank g c =
    let was = c.loop-i.invariant in
    let page : c.low.result.number / 32768 ≡ xact_page_of (slice_index c.args.ids.now 0) = page_shared c.args.ids.now c.loop-i.i c.index-ids-i.result c.low.result.number c.loop-i-test.true c.requires.one_page (c.low.ensures ∙ ap low_half c.index-ids-i.is) in
    let calls = rw page at c.set_state.ensures.bank in
    let all = calls_more (xact_page_of (slice_index c.args.ids.now 0)) c.loop-i.i c.args.bank.now c.loop-i.bank c.set_state.new.bank c.set_state.result was.untouched was.calls calls in
    search (rules, all)

pub returns-clause-ok : goal.returns-clause-ok
returns-clause-ok g c told =
    let all : c.loop-i.i ≡ length c.args.ids.now = omega arith in
    subst (λ (n : ℕ). SetsStates c.args.ids.now n (state_number c.args.state) (pages_of c.args.bank.now) (pages_of c.loop-i.bank)) all (c.loop-i.invariant.sets told)

pub returns-clause-bank : goal.returns-clause-bank
returns-clause-bank g c = c.loop-i.invariant.calls (omega (arith, c.requires.some))
