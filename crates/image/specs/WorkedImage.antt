-- A worked image: the bytes of one configuration, to be held against document 02, §3, byte by byte. A field of `Images`, proved in Laws/WorkedImage.
use Rattle.std.specs.Prelude.{◌≡◌, [], ◌∷◌}
use Rattle.endpoint.specs.Config.{config_of, add_peer, add_binding, set_up}
use Rattle.endpoint.specs.declared.config.Endpoint.{Endpoint}
use Rattle.image.specs.Image.{image_of}

-- we are 10.0.0.1, STT on port 7,471, an MTU of 1,500; peers 10.0.0.2 and 10.0.0.3; VXLAN network 22 of peer 1 is tenant 7's, and STT network
-- 0x0102030405060708 of peer 0 is tenant 0x0A0B's
abbrev pub worked : Endpoint
worked =
    set_up 0x0A000001 7471 1500
    (add_peer 0x0A000002 ∷ add_peer 0x0A000003 ∷ add_binding 1 1 22 7 ∷ add_binding 0 3 0x0102030405060708 0x0A0B ∷ [])

pub record WorkedImage : Type 0 where
  pub bytes : image_of (config_of worked)
      ≡ 0x54 ∷ 0x57 ∷ 0x4E  -- TWN
      ∷ 0x00 ∷ 0x01  -- version 1
      ∷ 0x0A ∷ 0x00 ∷ 0x00 ∷ 0x01  -- own address
      ∷ 0x1D ∷ 0x2F  -- STT port
      ∷ 0x05 ∷ 0xDC  -- MTU
      ∷ 0x02  -- two peers
      ∷ 0x0A ∷ 0x00 ∷ 0x00 ∷ 0x02
      ∷ 0x0A ∷ 0x00 ∷ 0x00 ∷ 0x03
      ∷ 0x02  -- two bindings: peer, kind, id, tenant
      ∷ 0x01 ∷ 0x01 ∷ 0x00 ∷ 0x00 ∷ 0x00 ∷ 0x00 ∷ 0x00 ∷ 0x00 ∷ 0x00 ∷ 0x16 ∷ 0x00 ∷ 0x07
      ∷ 0x00 ∷ 0x03 ∷ 0x01 ∷ 0x02 ∷ 0x03 ∷ 0x04 ∷ 0x05 ∷ 0x06 ∷ 0x07 ∷ 0x08 ∷ 0x0A ∷ 0x0B
      ∷ []
