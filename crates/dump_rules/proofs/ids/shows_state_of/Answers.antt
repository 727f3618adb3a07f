use Rattle.std.proofs.Common.{◌≡◌, ℕ, sym, subst, arith}
use Rattle.tx_events.specs.Ids.{low_half}
use Rattle.tx_events.specs.Pages.{xact_page}
use Rattle.report_law.specs.Dumps.{HasBits}
use Rattle.dump_rules.proofs.ids.shows_state_of.Goals as goal

pub returns : goal.returns
returns c =
    let at = c.args.at in
    let bytes = c.args.bytes.now in
    let same = c.low-low.ensures in
    let here : xact_page (low_half c.args.x) ≡ c.args.page = (let p = c.xact_page.ensures.page in omega arith) in (
      λ t p. subst (λ (n : ℕ). HasBits at bytes (low_half c.args.x) n) c.state_at.ensures (subst (λ (n : ℕ). HasBits at bytes n c.state_at.result) same (c.has_bits.ensures.0 t)),
      λ s. c.has_bits.ensures.1 (subst (λ (n : ℕ). HasBits at bytes n c.state_at.result) (sym same) (subst (λ (n : ℕ). HasBits at bytes (low_half c.args.x) n) (sym c.state_at.ensures) (s here))),
    )
