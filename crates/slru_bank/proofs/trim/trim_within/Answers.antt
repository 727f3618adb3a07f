use Rattle.std.proofs.Common.{◌≡◌, ℕ, List, Bool, slice_index, bit_and, refl, ap, sym, subst, ◌-◌, ◌/◌, ◌%◌, ◌∙◌}
use Rattle.std.specs.Prelude.{IsTrue}
use Rattle.tx_events.specs.PageOrder.{Ids, is_cut, page_precedes}
use Rattle.slru_bank.specs.Bank.{IsPage}
use Rattle.slru_bank.specs.ByteRange.{first_read}
use Rattle.slru_bank.specs.Calls.{at_hand_is_ok, pages_of, unrefused}
use Rattle.slru_bank.specs.Removal.{MayDrop}
use Rattle.slru_bank.specs.States.{times_4}
use Rattle.slru_bank.proofs.TrimLemmas.{drop_over, on_err, trim_crash, trims_clear, trims_ok, trims_same}
use Rattle.slru_bank.proofs.trim.trim_within.Goals as goal

pub returns-in_err-clear_after-clause-err : goal.returns-in_err-clear_after-clause-err
returns-in_err-clear_after-clause-err g c told =
    let gone : ℕ → Bool = page_precedes Ids 32768 c.args.page in
    let m = pages_of c.args.bank.now in
    let mid = pages_of c.clear_after.new.self in
    on_err (MayDrop gone m mid) c.from_residual-in_err-clear_after.result (drop_over gone m (pages_of c.read.new.self) mid (c.read.ensures.same told) (c.in_err-clear_after.ensures.bank.err told))

pub returns-in_err-clear_after-clause-crash : goal.returns-in_err-clear_after-clause-crash
returns-in_err-clear_after-clause-crash g c =
    trim_crash (page_precedes Ids 32768 c.args.page) c.args.bank.now c.read.new.self c.clear_after.new.self c.clear_after.new.self.disk refl c.read.ensures.same c.read.ensures.bank.calls.crash c.clear_after.ensures.bank.crash

pub returns-then-byte-mask-eq0-clause-crash : goal.returns-then-byte-mask-eq0-clause-crash
returns-then-byte-mask-eq0-clause-crash g c =
    trim_crash (page_precedes Ids 32768 c.args.page) c.args.bank.now c.read.new.self c.clear_after.new.self c.clear_after.new.self.disk refl c.read.ensures.same c.read.ensures.bank.calls.crash c.clear_after.ensures.bank.crash

pub returns-then-byte-mask-eq0-clause-ok : goal.returns-then-byte-mask-eq0-clause-ok
returns-then-byte-mask-eq0-clause-ok g c told =
    let m = pages_of c.args.bank.now in
    let old = pages_of c.read.new.self in
    let mid = pages_of c.clear_after.new.self in
    let same = c.read.ensures.same told in
    let byte : slice_index c.read.new.into 0 ≡ slice_index (m c.args.page) (c.args.place / 4) = ap (λ (l : List ℕ). slice_index l 0) (c.in_ok-read.ensures.bytes told) ∙ first_read (m c.args.page) (c.args.place / 4) in
    let none : bit_and (slice_index c.read.new.into 0) c.mask_from-mask.result ≡ 0 = c.if-byte-mask-eq0.true in
    let none2 : bit_and (slice_index (old c.args.page) (c.args.place / 4)) (256 - times_4 1 (c.args.place % 4)) ≡ 0 =
    ap (λ (l : List ℕ). bit_and (slice_index l (c.args.place / 4)) (256 - times_4 1 (c.args.place % 4))) (same c.args.page)
    ∙ ap (λ (b : ℕ). bit_and b (256 - times_4 1 (c.args.place % 4))) (sym byte) ∙ ap (λ (k : ℕ). bit_and (slice_index c.read.new.into 0) k) (sym c.mask_from-mask.ensures) ∙ none in
    let whole : IsPage (old c.args.page) = subst (λ (l : List ℕ). IsPage l) (sym (same c.args.page)) (c.in_ok-read.ensures.page told) in
    trims_same c.args.page c.args.place m old mid same (trims_clear c.args.page c.args.place old mid c.requires.odd whole none2 (c.in_ok-clear_after.ensures.ok told))

pub returns-clause-ok : goal.returns-clause-ok
returns-clause-ok g c told =
    let puts = rw c.mask_from-mask.ensures at (c.set.ensures.ok told) in
    trims_ok c.set.result c.args.page c.args.place (pages_of c.args.bank.now) (pages_of c.read.new.self) (pages_of c.clear_after.new.self) (pages_of c.set.new.self) c.requires.odd c.requires.within (c.read.ensures.same told) (c.in_ok-clear_after.ensures.ok told) (c.set.ensures.page told) puts

-- the page is at hand, so its last byte is set
pub returns-clause-err : goal.returns-clause-err
returns-clause-err g c told =
    unrefused c.set.result (MayDrop (page_precedes Ids 32768 c.args.page) (pages_of c.args.bank.now) (pages_of c.set.new.self))
    (at_hand_is_ok c.args.page c.clear_after.new.self c.set.new.self c.set.result c.in_ok-clear_after.ensures.at_hand
    (λ cut. let refused = c.read.ensures.bank.calls.cut (subst (λ (cutoff : ℕ). IsTrue (is_cut Ids 32768 cutoff c.args.page)) (c.clear_after.ensures.bank.cutoff ∙ c.read.ensures.bank.calls.cutoff) cut) in let read = c.in_ok-read.was in absurd cc)
    c.set.ensures.bank)

pub returns-clause-crash : goal.returns-clause-crash
returns-clause-crash g c =
    trim_crash (page_precedes Ids 32768 c.args.page) c.args.bank.now c.read.new.self c.clear_after.new.self c.set.new.self.disk (c.set.ensures.bank.not_asked c.in_ok-clear_after.ensures.at_hand) c.read.ensures.same c.read.ensures.bank.calls.crash c.clear_after.ensures.bank.crash
