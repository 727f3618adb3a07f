use Rattle.std.proofs.Common.{◌≡◌, take, drop}
use Rattle.disk_core.specs.Media.{EachCrashed}
use Rattle.disk_core.specs.MemMediaViews.{bank_crashed, BankFell}
use Rattle.disk_core.proofs.mem_banks.crash_banks.Given as goal

abbrev pub invariant-loop-bank : goal.invariant-loop-bank
invariant-loop-bank l =
    EachCrashed bank_crashed (take l.bank-index l.initial.bank-items) (take l.bank-index l.bank-items)
    × EachCrashed (BankFell l.how) (take l.bank-index l.initial.bank-items) (take l.bank-index l.bank-items)
    × (drop l.bank-index l.bank-items ≡ drop l.bank-index l.initial.bank-items)
