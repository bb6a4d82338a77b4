use Rattle.transfer.proofs.Moves.{grows-trans}
use Rattle.generate.proofs.Piecing.{writes-whole, writes-none}
use Rattle.generate.proofs.pieces.write_load.Goals as goal

pub returns-in_err-last-clause-grows : goal.returns-in_err-last-clause-grows
returns-in_err-last-clause-grows g c = grows-trans _ _ _ c.write_whole.ensures.grows c.write_rest.ensures.grows

pub returns-in-Err-clause-whole : goal.returns-in-Err-clause-whole
returns-in-Err-clause-whole g c =
    writes-none c.args.setup c.unopened.ensures c.requires.0 c.requires.1 c.args.steps c.args.settle c.args.seed c.in-Err.ensures

pub returns-clause-whole : goal.returns-clause-whole
returns-clause-whole g c =
    writes-whole c.args.setup c.unopened.ensures c.requires.0 c.requires.1 _ _ _ c.in-Ok.ensures c.generate.auto.out c.in_ok-last.ensures.resumes

pub returns-clause-grows : goal.returns-clause-grows
returns-clause-grows g c = grows-trans _ _ _ c.write_whole.ensures.grows c.write_rest.ensures.grows
