-- Each return of `times_power` is one case of the definition, by the exponent's last digit (Halves). The measure is n, which falls by half.
use Rattle.power.proofs.+times_power.Given as goal

abbrev pub decreases-times_power : goal.decreases-times_power
decreases-times_power l = l.n
