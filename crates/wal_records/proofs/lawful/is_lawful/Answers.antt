use Rattle.wal_records.proofs.LawfulTests.{lawful_test}
use Rattle.wal_records.proofs.lawful.is_lawful.Goals as goal

pub returns-clause-lawful : goal.returns-clause-lawful
returns-clause-lawful c = lawful_test c.has_lawful_form.result c.args.rec.now c.has_lawful_form.ensures
