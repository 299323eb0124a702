use Rattle.std.proofs.Common.{List, ℕ}
use Rattle.snap_scan.proofs.Collects.{no_fall, Collects-push, clean_moment, borrow_moment}
use Rattle.snap_scan.proofs.laws.collect_laws.Goals as goal

pub returns-clause-no_fall : goal.returns-clause-no_fall
returns-clause-no_fall c n number entry b e t told latest j rising end is l =
    no_fall (List ℕ) n number entry b e told latest is rising t j end l

pub returns-clause-look : goal.returns-clause-look
returns-clause-look c n number entry b e t told latest j start end size is turn =
    Collects-push (List ℕ) n number entry b e told latest is t j end turn start size

pub returns-clause-clean : goal.returns-clause-clean
returns-clause-clean c n number entry b e told latest rising kept pos is clean none =
    clean_moment (List ℕ) n number entry b e told latest is rising kept pos clean none

pub returns-clause-borrow : goal.returns-clause-borrow
returns-clause-borrow c n number entry b e t told latest j p rising end is turn borrowed none pl before = borrow_moment
    (List ℕ) n number entry b e told latest is rising t j end turn borrowed p pl before none
