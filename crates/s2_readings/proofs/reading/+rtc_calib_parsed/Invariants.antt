-- each call of itself is on a tag of a lower rank
use Rattle.s2_readings.specs.Table.{rank_of}
use Rattle.s2_readings.proofs.reading.+rtc_calib_parsed.Given as goal

abbrev pub decreases-rtc_calib_parsed : goal.decreases-rtc_calib_parsed
decreases-rtc_calib_parsed l = rank_of l.tag
