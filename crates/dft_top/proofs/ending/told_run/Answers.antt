-- The run is that of the words over the host's files and output.
use Rattle.dft_top.proofs.HostRuns.{host_run}
use Rattle.dft_top.proofs.PageLemmas.{told_so}
use Rattle.dft_top.proofs.ending.told_run.Goals as goal

pub returns-clause-status : goal.returns-clause-status
returns-clause-status g c =
    let files = c.new-files.ensures in
    let out = c.new-out.ensures in
    record {
      after = _;
      answer = c.status_of_run-status.result.1;
      run = host_run _ _ _ _ _ _ _ _ _ _ _ _ files.held files.failed files.read_faults files.write_faults files.short_saves out.told out.faults out.short_puts c.status_of_run-status.ensures.status;
    }

pub returns-clause-told : goal.returns-clause-told
returns-clause-told g c =
    let files = c.new-files.ensures in
    let out = c.new-out.ensures in
    told_so _ _
    (record {
      after = _;
      answer = c.status_of_run-status.result.1;
      run = host_run _ _ _ _ _ _ _ _ _ _ _ _ files.held files.failed files.read_faults files.write_faults files.short_saves out.told out.faults out.short_puts c.status_of_run-status.ensures.status;
    })
    _ _ _ c.failed_name-failed.ensures c.reason-unput.ensures c.page_of_run-page.ensures.told c.page_of_run-page.ensures.silent
