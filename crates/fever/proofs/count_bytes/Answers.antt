use Rattle.fever.proofs.Writing.{bytes_counted, none-counted}
use Rattle.fever.proofs.count_bytes.Goals as goal

pub returns-in-Ok : goal.returns-in-Ok
returns-in-Ok c = bytes_counted _ _ c.in-Ok.is

pub returns-in-Err : goal.returns-in-Err
returns-in-Err c = none-counted _ _ c.in-Err.is
