-- `update::flag` meets its contract: the bit does not leave the 16.
use Prim.Native.Nat.{ℕ, ◌*◌, ◌%◌, ◌^◌, ◌≤◌}
use mathlib.Core.Path.{◌≡◌, ◌∙◌}
use native.Mathlib.Nat.{one-mul}
use native.Mathlib.Omega.{arith}
use lib.Pow.{pow_mono, shl_exact}
use Rattle.update.proofs.flag.Goals as goal

-- a power of two that fits
shifted : (c : ℕ) → c ≤ 11 → (1 * 2 ^ c) % 2 ^ 16 ≡ 2 ^ c
shifted c h = shl_exact 1 c 16 (omega arith) (omega arith) ∙ one-mul (2 ^ c)

power_most : (c : ℕ) → c ≤ 11 → 2 ^ c ≤ 4096
power_most c h = let h12 : c ≤ 12 = omega arith in pow_mono h12

pub returns : goal.returns
returns c =
    let s = c in
    let e = shifted s.args.n.0 s.requires in
    (e, rw e (power_most s.args.n.0 s.requires))
