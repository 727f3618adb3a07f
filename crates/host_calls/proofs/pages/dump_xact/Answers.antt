use Rattle.std.proofs.Common.{◌≡◌, ℕ, ◌%◌, List, drop, refl, sym, ap, subst, ◌∙◌, arith, length, take}
use Rattle.engine_parts.specs.InPlace.{with_value}
use Rattle.disk_core.specs.Faults.{HasRisen}
use Rattle.hall.specs.Calls.{start_of, view}
use Rattle.hall.specs.declared.view.Stage.TheVariants.{Inside}
use Rattle.notes.specs.Lists.{at}
use Rattle.slru_bank.specs.Bank.{IsPage}
use Rattle.slru_bank.specs.Calls.{cutoff_of, faults_of, pages_of}
use Rattle.tx_core.specs.declared.entry.Entry.{Entry}
use Rattle.tx_core.specs.EngineInvariant.{EngineInvariant}
use Rattle.tx_core.specs.Locks.{xact_lock}
use Rattle.engine_parts.specs.declared.part.Part.TheVariants as parts
use Rattle.engine_parts.specs.Parts.{IsXactOf}
use Rattle.bank_sections.specs.Sections.{IsXactCut}
use Rattle.bank_sections.proofs.Sameness.{xact_same}
use Rattle.host_calls.specs.Shown.{HasFailed, IsXactUncut}
use Rattle.engine_host.proofs.Homing.{came_home, is_alone}
use Rattle.host_calls.proofs.Showing.{of_ok, ok_by, read_same, read_uncut, shows_xact}
use Rattle.host_calls.proofs.pages.dump_xact.Goals as goal

pub bank_of-bank-requires : goal.bank_of-bank-requires
bank_of-bank-requires g c = c.requires.home.is_host.cluster.banks.0

pub take_xact-held-requires-clause-bank : goal.take_xact-held-requires-clause-bank
take_xact-held-requires-clause-bank g c =
    let h = c.requires.home.is_host in
    omega (arith, h.banks, c.bank_of-bank.ensures.within)

pub take_xact-held-requires-clause-alone : goal.take_xact-held-requires-clause-alone
take_xact-held-requires-clause-alone g c = is_alone c.args.hall.now c.args.host.now c.requires.home

pub put_back-requires-clause-inside : goal.put_back-requires-clause-inside
put_back-requires-clause-inside g c = let i = c.take_xact-held.ensures.inside in i.inside ∙ ap Inside (sym i.cell)

pub put_back-requires-clause-stands : goal.put_back-requires-clause-stands
put_back-requires-clause-stands g c =
    let start = start_of c.args.hall.now in
    let seen = (view c.args.host.now.pass).seen in
    let store = c.deref_mut-store.result.now in
    let now = c.read-found.new.self in
    let r = c.read-found.ensures in
    let bank = c.bank_of-bank.result in
    let i = c.take_xact-held.ensures.inside in
    subst (λ (z : ℕ × List (List Entry)). (b : ℕ) × (z.0 ≡ xact_lock b) × IsXactOf start b now (at z.1 z.0)) (λ j. (sym i.cell j, sym i.seen j))
    (bank, refl, xact_same start bank store now (at seen (xact_lock bank)) (read_same c.args.page store now c.read-found.result r.bank r.same) r.bank.calls.crash (subst (λ l. IsXactOf (start_of c.args.hall.now) c.bank_of-bank.result l (at (view c.args.host.now.pass).seen (xact_lock c.bank_of-bank.result))) (sym c.deref_mut-store.ensures.value) c.take_xact-held.ensures.stands))

pub returns-clause-stays : goal.returns-clause-stays
returns-clause-stays g c = came_home c.args.hall.now (xact_lock c.bank_of-bank.result) c.args.host.now _ c.take_xact-held.new.pass c.requires.home c.take_xact-held.ensures.inside c.put_back.ensures.own.0 c.put_back.ensures.view refl refl

pub returns-clause-kept : goal.returns-clause-kept
returns-clause-kept g c = let i = c.take_xact-held.ensures.inside in subst (EngineInvariant (start_of c.args.hall.now)) i.seen i.kept

pub returns-clause-bytes : goal.returns-clause-bytes
returns-clause-bytes g c told =
    let start = start_of c.args.hall.now in
    let i = c.take_xact-held.ensures.inside in
    let seen = (view c.args.host.now.pass).seen in
    let store = c.deref_mut-store.result.now in
    let now = c.read-found.new.self in
    let r = c.read-found.ensures in
    let bank = c.bank_of-bank.result in
    let here : bank ≡ c.args.page % start.banks = c.bank_of-bank.ensures.value ∙ ap (λ n. c.args.page % n) (sym c.requires.home.is_host.banks) in
    let count = length c.args.into.now in
    let page : List ℕ = pages_of store c.args.page in
    ok_by _ c.read-found.result (λ x is.
    shows_xact start seen store bank c.args.page c.args.from count c.read-found.new.into (subst (EngineInvariant start) i.seen i.kept) (subst (λ l. IsXactOf (start_of c.args.hall.now) c.bank_of-bank.result l (at (view c.args.host.now.pass).seen (xact_lock c.bank_of-bank.result))) (sym c.deref_mut-store.ensures.value) c.take_xact-held.ensures.stands) here (read_uncut c.args.page store now c.read-found.result x r.bank is) told
    (record { whole = of_ok (IsPage page) c.read-found.result x is (r.page told); piece = of_ok (c.read-found.new.into ≡ take count (drop c.args.from page)) c.read-found.result x is (r.bytes told) }))

pub returns-clause-uncut : goal.returns-clause-uncut
returns-clause-uncut g c =
    let start = start_of c.args.hall.now in
    let i = c.take_xact-held.ensures.inside in
    let store = c.deref_mut-store.result.now in
    let here : c.bank_of-bank.result ≡ c.args.page % start.banks = c.bank_of-bank.ensures.value ∙ ap (λ n. c.args.page % n) (sym c.requires.home.is_host.banks) in
    ok_by _ c.read-found.result (λ x is.
    subst (λ (z : ℕ). IsXactUncut start (view c.args.host.now.pass).seen z c.args.page) here
    (cutoff_of store, (subst (λ l. IsXactOf (start_of c.args.hall.now) c.bank_of-bank.result l (at (view c.args.host.now.pass).seen (xact_lock c.bank_of-bank.result))) (sym c.deref_mut-store.ensures.value) c.take_xact-held.ensures.stands).cutoff_is, read_uncut c.args.page store c.read-found.new.self c.read-found.result x c.read-found.ensures.bank is))

pub returns-clause-cut : goal.returns-clause-cut
returns-clause-cut g c cutoff is =
    let start = start_of c.args.hall.now in
    let i = c.take_xact-held.ensures.inside in
    let cut = c.read-found.ensures.bank.calls.only_cut cutoff is in
    let here : c.bank_of-bank.result ≡ c.args.page % start.banks = c.bank_of-bank.ensures.value ∙ ap (λ n. c.args.page % n) (sym c.requires.home.is_host.banks) in
    subst (λ (z : ℕ × ℕ). IsXactCut start (view c.args.host.now.pass).seen z.0 c.args.page z.1) (λ j. (here j, sym cut.0 j))
    ((subst (λ l. IsXactOf (start_of c.args.hall.now) c.bank_of-bank.result l (at (view c.args.host.now.pass).seen (xact_lock c.bank_of-bank.result))) (sym c.deref_mut-store.ensures.value) c.take_xact-held.ensures.stands).cutoff_is, cut.1)

pub returns-clause-fault : goal.returns-clause-fault
returns-clause-fault g c is =
    let start = start_of c.args.hall.now in
    let i = c.take_xact-held.ensures.inside in
    let seen = (view c.args.host.now.pass).seen in
    let store = c.deref_mut-store.result.now in
    let now = c.read-found.new.self in
    let r = c.read-found.ensures in
    let bank = c.bank_of-bank.result in
    let here : bank ≡ c.args.page % start.banks = c.bank_of-bank.ensures.value ∙ ap (λ n. c.args.page % n) (sym c.requires.home.is_host.banks) in
    let held = c.take_xact-held.result in
    let stood = (subst (λ l. IsXactOf (start_of c.args.hall.now) c.bank_of-bank.result l (at (view c.args.host.now.pass).seen (xact_lock c.bank_of-bank.result))) (sym c.deref_mut-store.ensures.value) c.take_xact-held.ensures.stands) in
    let failed : HasFailed g.L.LogDisk g.P.PageDisk start seen (xact_lock bank) = record {
      before = parts.Xact held;
      now = parts.Xact (with_value held now);
      stood = (bank, refl, c.take_xact-held.ensures.stands);
      stands = (bank, refl, xact_same start bank store now (at seen (xact_lock bank)) (read_same c.args.page store now c.read-found.result r.bank r.same) r.bank.calls.crash stood);
      risen = subst (λ l. HasRisen (faults_of l) (faults_of now)) c.deref_mut-store.ensures.value (r.bank.calls.fault is);
    } in
    subst (λ (z : ℕ). HasFailed g.L.LogDisk g.P.PageDisk start seen (xact_lock z)) here failed
