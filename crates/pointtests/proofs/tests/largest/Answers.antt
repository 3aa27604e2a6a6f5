-- `largest` meets its contract. Assumes nothing.
use mathlib.Core.Logic.{inl, inr}
use Rattle.pointtests.proofs.PointTests.{masks_4, masks_16, masks_standard, masks_symmetric, masks_mixed}
use Rattle.pointtests.proofs.ByteTests.{reaches_4, reaches_16, reaches_standard, reaches_symmetric, reaches_mixed}
use Rattle.pointtests.proofs.tests.largest.Goals as goal

pub returns-in-Qam4 : goal.returns-in-Qam4
returns-in-Qam4 c = rw c.in-Qam4.is (record { reaches = reaches_4; masks = masks_4 })

pub returns-in-Qam16 : goal.returns-in-Qam16
returns-in-Qam16 c = rw c.in-Qam16.is (record { reaches = reaches_16; masks = masks_16 })

pub returns-in-Sm64 : goal.returns-in-Sm64
returns-in-Sm64 c =
    elim c.in-Sm64.is [
      | inl is ↦ rw is (record { reaches = reaches_standard; masks = masks_standard })
      | inr others ↦ elim others [
        | inl is ↦ rw is (record { reaches = reaches_symmetric; masks = masks_symmetric })
        | inr is ↦ rw is (record { reaches = reaches_mixed; masks = masks_mixed })
      ]
    ]
