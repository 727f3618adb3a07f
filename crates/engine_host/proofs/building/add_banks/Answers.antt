use Rattle.std.proofs.Common.{ℕ, ◌≡◌, ◌+◌, ◌*◌, ◌≤◌, ◌∙◌, IsTrue, ap, arith, drop, length, remove, rules, subst, suc, sym}
use Rattle.std.proofs.lemmas.List.{length-drop}
use Rattle.std.proofs.lemmas.Result.{err_from_is_err_and}
use Rattle.engine_host.specs.Refused.{HaveDisks, IsBankRefusal, IsFailed}
use Rattle.engine_host.specs.Stores.{Store, disks_in, lock_named, volumes_in}
use Rattle.engine_host.proofs.Counting.{counted_fewer, counted_more}
use Rattle.engine_host.proofs.Refusing.{drop_next, some_left}
use Rattle.engine_host.proofs.Starting.{rest_begin}
use Rattle.engine_host.proofs.building.add_banks.Goals as goal

-- With a ghost value the clauses of `requires` have no names: they stand in their order behind what is asked of
-- lifetimes.

pub add_bank-requires : goal.add_bank-requires
add_bank-requires g c =
    let bank = c.loop-bank.bank in
    let p = g.P.PageDisk in
    let i = c.loop-bank.invariant in
    let all = c.args.volumes.now in
    let cluster = c.requires.1.1.0 in
    let inside = c.loop-bank-test.true in
    let count = i.count in
    let disks = i.disks in
    let stand = i.stand in
    let room = subst (λ n. 3 + 4 * c.args.cluster.now.banks ≤ n) (sym i.room) c.requires.1.1.1.1.1.1.0 in
    let left = λ (k : Store). some_left bank (volumes_in k all).items (volumes_in k c.loop-bank.volumes).items (i.rest k) (omega (arith, inside, c.requires.1.1.1.0 k)) in
    let shown = λ (told : IsTrue p.tells). rest_begin p c.args.cluster.now g.begins c.args.removes bank all c.loop-bank.volumes i.rest (c.requires.1.1.1.1.1.1.1.1 told) in
    search (rules, cluster, inside, count, disks, stand, room, left, shown)

pub loop-bank-preserved : goal.loop-bank-preserved
loop-bank-preserved g c =
    let e = c.in_ok-add_bank.ensures in
    let i = c.loop-bank.invariant in
    let n = c.loop-bank.bank in
    let all = c.args.volumes.now in
    let more : suc n ≡ n + 1 = omega arith in
    record {
      rest = λ k. e.taken k ∙ (ap (λ l. remove l 0) (i.rest k) ∙ subst (λ m. remove (drop n (volumes_in k all).items) 0 ≡ drop m (volumes_in k all).items) more (drop_next n (volumes_in k all).items));
      count = e.count;
      disks = e.disks;
      room = e.room ∙ i.room;
      stand = e.stand;
      counted = counted_more n all c.loop-bank.volumes c.loop-bank.locks.items c.add_bank.new.locks.items i.rest i.count i.counted e.counted;
      capacity = λ k. e.capacity k ∙ i.capacity k;
      kept = λ none k. e.kept none k ∙ i.kept none k;
    }

pub returns-clause-counted : goal.returns-clause-counted
returns-clause-counted g c = counted_fewer c.args.cluster.now.banks c.loop-bank.bank c.args.volumes.now c.loop-bank.locks.items c.loop-bank-test.false c.loop-bank.invariant.counted

pub returns-in_err-add_bank-clause-back : goal.returns-in_err-add_bank-clause-back
returns-in_err-add_bank-clause-back g c k =
    let e = c.in_err-add_bank.ensures in
    let i = c.loop-bank.invariant in
    let inside = c.loop-bank-test.true in
    let locks = ap (λ l. length (disks_in k l)) e.same in
    let disks = i.disks k in
    let back = e.back k in
    let rest = ap length (i.rest k) in
    let dropped = length-drop c.loop-bank.bank (volumes_in k c.args.volumes.now).items in
    let all = c.requires.1.1.1.0 k in
    omega (arith, inside, locks, disks, back, rest, dropped, all)

pub returns-in_err-add_bank-clause-refused : goal.returns-in_err-add_bank-clause-refused
returns-in_err-add_bank-clause-refused g c =
    let e = c.in_err-add_bank.ensures in
    let i = c.loop-bank.invariant in
    let bank = c.loop-bank.bank in
    let why = e.refused in
    let all : (n : ℕ) × HaveDisks n c.add_bank.new.locks.items × IsBankRefusal g.P.PageDisk n (λ k. drop n (volumes_in k c.args.volumes.now).items) (λ k. (volumes_in k c.add_bank.new.volumes).items) c.in_err-add_bank.field-0.0 = (
      bank,
      subst (λ l. HaveDisks bank l) (sym e.same) i.disks,
      (why.0, subst (λ xs. IsFailed g.P.PageDisk (lock_named why.0 bank) xs (volumes_in why.0 c.add_bank.new.volumes).items c.in_err-add_bank.field-0.0) (i.rest why.0) why.1),
    ) in
    let err = err_from_is_err_and c.from_residual.result c.from_residual.ensures.1 in
    rw (err.1, err.2) all

pub returns-clause-back : goal.returns-clause-back
returns-clause-back g c k =
    let i = c.loop-bank.invariant in
    let past = c.loop-bank-test.false in
    let end = c.loop-bank.auto.bank-end in
    let disks = i.disks k in
    let rest = ap length (i.rest k) in
    let dropped = length-drop c.loop-bank.bank (volumes_in k c.args.volumes.now).items in
    let all = c.requires.1.1.1.0 k in
    omega (arith, past, end, disks, rest, dropped, all)
