use Rattle.std.proofs.Common.{◌≡◌, ℕ, ap, ◌∙◌, arith, ◌%◌}
use Rattle.tx_events.specs.Pages.{xact_page, xact_place}
use Rattle.slru_bank.specs.Calls.{pages_of}
use Rattle.slru_bank.specs.States.{state_number, times_4}
use Rattle.slru_bank.proofs.OneState.{sets_state_by}
use Rattle.slru_bank.proofs.states.set_state.Goals as goal

pub returns-clause-ok : goal.returns-clause-ok
returns-clause-ok g c told =
    let number : c.number_of_state.result ≡ state_number c.args.state = c.number_of_state.ensures.number in
    let place = c.xact_place-place.ensures.place in
    let mask = c.placed_bits.ensures ∙ ap (λ (n : ℕ). times_4 3 (n % 4)) place in
    let bits = c.placed_bits-2.ensures ∙ ap (λ (n : ℕ). times_4 n (c.xact_place-place.result % 4)) number ∙ ap (λ (n : ℕ). times_4 (state_number c.args.state) (n % 4)) place in
    let puts = rw place at (c.set.ensures.ok told) in
    sets_state_by c.set.result (pages_of c.args.bank.now) (pages_of c.set.new.self) c.xact_page.result (xact_page c.args.x.number) (xact_place c.args.x.number) (state_number c.args.state) c.placed_bits.result c.placed_bits-2.result
    (omega arith) (omega (arith, number, c.number_of_state.ensures.small)) c.xact_page.ensures.page mask bits (c.set.ensures.page told) puts
