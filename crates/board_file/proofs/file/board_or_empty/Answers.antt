use Rattle.board_file.proofs.Boards.{or_empty}
use Rattle.board_file.proofs.file.board_or_empty.Goals as goal

pub returns-clause-board : goal.returns-clause-board
returns-clause-board c = rw c.unwrap_or.ensures (or_empty c.args.bytes.now c.board_of.result c.new.result c.board_of.ensures c.new.ensures)
