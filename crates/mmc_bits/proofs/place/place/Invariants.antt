-- The histories of the calls are that of the place.
use Rattle.mmc_bits.proofs.place.place.Given as goal

abbrev pub ghost-speakers : goal.ghost-speakers
ghost-speakers g a = g.here

abbrev pub ghost-short_levels : goal.ghost-short_levels
ghost-short_levels g a = g.here

abbrev pub ghost-last_level : goal.ghost-last_level
ghost-last_level g a = g.here
