use Rattle.std.proofs.Common.{◌≡◌, ◌*◌, ℕ, sym, subst, arith}
use Rattle.tx_events.specs.Ids.{low_half}
use Rattle.store_pages.specs.Layouts.{word_place_of}
use Rattle.tx_events.specs.Pages.{subtrans_page}
use Rattle.report_law.specs.Dumps.{HasWord}
use Rattle.dump_rules.proofs.ids.shows_parent_of.Goals as goal

pub returns : goal.returns
returns c =
    let at = c.args.at in
    let bytes = c.args.bytes.now in
    let same = c.low-low.ensures in
    let here : subtrans_page (low_half c.args.x) ≡ c.args.page = (let p = c.subtrans_page.ensures.page in omega arith) in
    let word : 4 * c.from-word.result ≡ word_place_of c.args.x = (let p = c.subtrans_place.ensures.place in let f = c.from-word.ensures in omega arith) in (
      λ t p. subst (λ (n : ℕ). HasWord at bytes (word_place_of c.args.x) n) c.parent_low.ensures (subst (λ (n : ℕ). HasWord at bytes n c.parent_low.result) word (c.has_word.ensures.0 t)),
      λ s. c.has_word.ensures.1 (subst (λ (n : ℕ). HasWord at bytes n c.parent_low.result) (sym word) (subst (λ (n : ℕ). HasWord at bytes (word_place_of c.args.x) n) (sym c.parent_low.ensures) (s here))),
    )
