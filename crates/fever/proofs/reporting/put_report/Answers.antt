use Rattle.fever.proofs.Telling.{report-laid}
use Rattle.fever.proofs.reporting.put_report.Goals as goal

pub returns : goal.returns
returns c = rw c.in-Ok.is (report-laid _ _ _ _ _ _ _ _ _ c.in-Ok.told c.requires c.put_counts-delivered.ensures c.put_counts-held.ensures c.put_counts-waits.ensures c.put_slice.ensures)
