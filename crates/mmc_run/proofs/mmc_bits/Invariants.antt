use Rattle.mmc_run.proofs.mmc_bits.Given as goal

abbrev pub ghost-run : goal.ghost-run
ghost-run a = a.source
