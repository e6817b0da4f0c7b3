-- The refusal and the value of each answer are document 01's. Assumes nothing.
use Prim.Native.Nat.{ℕ}
use Rattle.terms.specs.Refusal.{plain, unit_refusal}
use Rattle.terms.specs.Says.{Says}
use Rattle.terms.specs.C6Version.{version_of}
use Rattle.terms.proofs.Says.{says}
use Rattle.references.specs.S2 as s2
use Rattle.references.specs.C6 as c6

-- the S2's `rtc_calib_cal_mv`
pub s2_says : (unit atten : ℕ)
    → Says (record { 0 = 0 })
    (s2.cal_mv_of unit atten) (plain (unit_refusal unit atten)) (record { 0 = s2.millivolts_of atten })
unfolding s2.cal_mv_of
s2_says unit atten = says _ _ _

-- the C6's
pub c6_says : (minor unit atten : ℕ)
    → Says (record { 0 = 0 })
    (c6.cal_mv_of minor unit atten) (plain (unit_refusal unit atten)) (record { 0 = c6.millivolts_of (version_of minor) atten })
unfolding c6.cal_mv_of
c6_says minor unit atten = says _ _ _
