use Rattle.bad144_tool.proofs.ListLaws.{puts_cut, puts_then}
use Rattle.bad144_tool.proofs.tool.write_list.Goals as goal

pub returns-in_err-write_head-in-Some-clause-puts : goal.returns-in_err-write_head-in-Some-clause-puts
returns-in_err-write_head-in-Some-clause-puts g c =
    rw c.in-Some.is (puts_cut _ c.from_residual.ensures.0 c.in_err-write_head-in-Some.ensures.puts)

pub returns-in_ok-write_head-in-Some-clause-puts : goal.returns-in_ok-write_head-in-Some-clause-puts
returns-in_ok-write_head-in-Some-clause-puts g c =
    rw c.in-Some.is (puts_then c.in_ok-write_head-in-Some.ensures.puts c.write_entries.ensures)
