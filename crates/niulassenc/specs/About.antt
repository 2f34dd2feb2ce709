-- The version, and the sizes of an endpoint and of a detector in memory.
use Rattle.std.specs.Prelude.{ℕ, ◌+◌, ◌*◌}

abbrev pub version_of : (major minor patch : ℕ) → ℕ
version_of major minor patch = major * 65536 + minor * 256 + patch

-- what the caller sets aside for an endpoint. `proofs/about/niulassenc_endpoint_bytes` holds it to the layout that the code is compiled for
abbrev pub endpoint_bytes : ℕ
endpoint_bytes = 1072

-- what the caller sets aside for a detector. `proofs/about/niulassenc_detector_bytes` holds it to the layout that the code is compiled for
abbrev pub detector_bytes : ℕ
detector_bytes = 1544
