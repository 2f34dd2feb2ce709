-- A set-up, five STT frames of one peer's in real packets, four of them pending at once and the fifth under an identifier that is used again, and a run
-- that mixes them with packets of the peer's own, one delivered and one refused, and with other senders' (document 01, "Whose packet it is"): what Possible
-- shows to meet demand 3's hypotheses.
-- Only definitions. A number that stands alone is a byte.
use Rattle.std.specs.Prelude.{ℕ, ◌-◌, List, [], ◌∷◌, ◌++◌, replicate}
use Rattle.reassembly.specs.Slots.{no_mark, most_peers}
use Rattle.reassembly.specs.Receive.{receive, tick}
use Rattle.reassembly.specs.Mix.{Frame, Item, given, other}
use Rattle.endpoint.specs.Config.{Config, Adding, add_peer, add_binding, set_up, most_bindings}
use Rattle.endpoint.specs.declared.config.Endpoint.{Endpoint}

-- ---- the set-up: we are 10.0.0.1, STT port 7471, MTU 1500. Peer 0 is 10.0.0.2, with two Context IDs and a VXLAN network; peer 1 is 10.0.0.3, with a VXLAN
-- network. Two calls are refused: our own address as a peer, and a binding that is listed

abbrev pub calls : List Adding
calls =
    add_peer 167772162
    ∷ add_peer 167772161
    ∷ add_peer 167772163
    ∷ add_binding 0 3 77 7
    ∷ add_binding 0 3 72623859790382856 8
    ∷ add_binding 0 3 77 9
    ∷ add_binding 1 1 22 9
    ∷ add_binding 0 1 22 5
    ∷ []

abbrev pub ready : Endpoint
ready = set_up 167772161 7471 1500 calls

-- the configuration that it holds
abbrev pub listed : Config
listed = record {
  own = 167772161;
  port = 7471;
  mtu = 1500;
  addresses = 167772162 ∷ 167772163 ∷ replicate (most_peers - 2) 0;
  peers = 2;
  owners = 0 ∷ 0 ∷ 1 ∷ 0 ∷ replicate (most_bindings - 4) 0;
  kinds = 3 ∷ 3 ∷ 1 ∷ 1 ∷ replicate (most_bindings - 4) 0;
  networks = 77 ∷ 72623859790382856 ∷ 22 ∷ 22 ∷ replicate (most_bindings - 4) 0;
  tenants = 7 ∷ 8 ∷ 9 ∷ 5 ∷ replicate (most_bindings - 4) 0;
  bindings = 4;
}

-- ---- headers

-- IPv4 from 10.0.0.x to us (RFC 791, 3.1): of the total length its lower byte, the protocol, and the checksum's two bytes
abbrev pub from_host : (x size protocol c d : ℕ) → List ℕ → List ℕ
from_host x size protocol c d payload =
    69 ∷ 0 ∷ 0 ∷ size ∷ 0 ∷ 0 ∷ 64 ∷ 0 ∷ 64 ∷ protocol ∷ c ∷ d ∷ 10 ∷ 0 ∷ 0 ∷ x ∷ 10 ∷ 0 ∷ 0 ∷ 1 ∷ payload

-- a segment for port 7471 (draft-davie-stt-06, 3.2): the frame's length and the offset, the identifier's two lower bytes, and the checksum's two bytes
abbrev pub carries : (size at a b c d : ℕ) → List ℕ → List ℕ
carries size at a b c d bytes =
    192 ∷ 0 ∷ 29 ∷ 47 ∷ 0 ∷ size ∷ 0 ∷ at ∷ 0 ∷ 0 ∷ a ∷ b ∷ 80 ∷ 16 ∷ 255 ∷ 255 ∷ c ∷ d ∷ 0 ∷ 0 ∷ bytes

-- UDP to port 4789 with no checksum, and VXLAN network 22 (RFC 768; RFC 7348, 5)
abbrev pub on_vxlan : (size : ℕ) → List ℕ → List ℕ
on_vxlan size frame = 204 ∷ 184 ∷ 18 ∷ 181 ∷ 0 ∷ size ∷ 0 ∷ 0 ∷ 8 ∷ 0 ∷ 0 ∷ 0 ∷ 0 ∷ 0 ∷ 22 ∷ 0 ∷ frame

-- ---- the frames of peer 0's: 18 bytes of STT header (draft-davie-stt-06, 3.1) and the inner frame

abbrev pub inner_a : List ℕ
inner_a = 2 ∷ 0 ∷ 0 ∷ 0 ∷ 0 ∷ 2 ∷ 2 ∷ 0 ∷ 0 ∷ 0 ∷ 0 ∷ 1 ∷ 136 ∷ 181 ∷ []

abbrev pub inner_b : List ℕ
inner_b = 2 ∷ 0 ∷ 0 ∷ 0 ∷ 0 ∷ 3 ∷ 2 ∷ 0 ∷ 0 ∷ 0 ∷ 0 ∷ 1 ∷ 8 ∷ 0 ∷ replicate 8 170

-- Context ID 77, 32 bytes, cut after 10: within the Context ID
abbrev pub front_a : List ℕ
front_a = replicate 10 0

abbrev pub rest-a : List ℕ
rest-a = 0 ∷ 0 ∷ 0 ∷ 0 ∷ 0 ∷ 77 ∷ 0 ∷ 0 ∷ inner_a

-- identifier 1001
abbrev pub frame-a : Frame
frame-a = record {
  identifier = 1001;
  content = replicate 8 0 ++ (0 ∷ 0 ∷ 0 ∷ 0 ∷ 0 ∷ 0 ∷ 0 ∷ 77 ∷ 0 ∷ 0 ∷ inner_a);
  parts =
      record { packet = from_host 2 50 6 38 196 (carries 32 0 3 233 186 143 front_a); bytes = front_a; mark = no_mark }
      ∷ record { packet = from_host 2 62 6 38 184 (carries 32 10 3 233 45 116 rest-a); bytes = rest-a; mark = no_mark }
      ∷ [];
}

-- Context ID 72,623,859,790,382,856, whose bytes are 1 to 8; 40 bytes, cut after 21: within the inner frame
abbrev pub front_b : List ℕ
front_b = replicate 8 0 ++ (1 ∷ 2 ∷ 3 ∷ 4 ∷ 5 ∷ 6 ∷ 7 ∷ 8 ∷ 0 ∷ 0 ∷ 2 ∷ 0 ∷ 0 ∷ [])

abbrev pub rest-b : List ℕ
rest-b = 0 ∷ 0 ∷ 3 ∷ 2 ∷ 0 ∷ 0 ∷ 0 ∷ 0 ∷ 1 ∷ 8 ∷ 0 ∷ replicate 8 170

-- identifier 1002
abbrev pub frame-b : Frame
frame-b = record {
  identifier = 1002;
  content = replicate 8 0 ++ (1 ∷ 2 ∷ 3 ∷ 4 ∷ 5 ∷ 6 ∷ 7 ∷ 8 ∷ 0 ∷ 0 ∷ inner_b);
  parts =
      record { packet = from_host 2 61 6 38 185 (carries 40 0 3 234 168 103 front_b); bytes = front_b; mark = no_mark }
      ∷ record { packet = from_host 2 59 6 38 187 (carries 40 21 3 234 11 180 rest-b); bytes = rest-b; mark = no_mark }
      ∷ [];
}

-- the same two contents under the identifiers 1003 and 1004
abbrev pub frame-c : Frame
frame-c = record {
  identifier = 1003;
  content = frame-a.content;
  parts =
      record { packet = from_host 2 50 6 38 196 (carries 32 0 3 235 186 141 front_a); bytes = front_a; mark = no_mark }
      ∷ record { packet = from_host 2 62 6 38 184 (carries 32 10 3 235 45 114 rest-a); bytes = rest-a; mark = no_mark }
      ∷ [];
}

abbrev pub frame-d : Frame
frame-d = record {
  identifier = 1004;
  content = frame-b.content;
  parts =
      record { packet = from_host 2 61 6 38 185 (carries 40 0 3 236 168 101 front_b); bytes = front_b; mark = no_mark }
      ∷ record { packet = from_host 2 59 6 38 187 (carries 40 21 3 236 11 178 rest-b); bytes = rest-b; mark = no_mark }
      ∷ [];
}

-- frame 4 is frame 0 sent again: the same identifier, the same packets
abbrev pub frames : List Frame
frames = frame-a ∷ frame-b ∷ frame-c ∷ frame-d ∷ frame-a ∷ []

-- ---- packets of peer 0's own beside the segments: on its VXLAN network; and frame 0's first segment, broken on the way, so that its checksum is wrong

abbrev pub own-packet : List ℕ
own-packet = from_host 2 50 17 38 185 (on_vxlan 30 inner_a)

abbrev pub broken-packet : List ℕ
broken-packet = from_host 2 50 6 38 196 (carries 32 0 3 233 186 144 front_a)

-- ---- other senders' packets: peer 1's on its VXLAN network; peer 1's segment under frame 0's identifier, in the place of frame 0's first; and one from
-- 10.0.0.9, which is no peer

abbrev pub vxlan-packet : List ℕ
vxlan-packet = from_host 3 50 17 38 184 (on_vxlan 30 inner_a)

abbrev pub rival_packet : List ℕ
rival_packet = from_host 3 50 6 38 195 (carries 32 0 3 233 186 142 (replicate 10 255))

abbrev pub stray_packet : List ℕ
stray_packet = from_host 9 50 17 38 178 (on_vxlan 30 inner_a)

-- ---- the run: frames 0 to 3 are pending together, frame 0 over three ticks; then frame 0 is complete, and frame 4 comes under its identifier, while 1 to
-- 3 are still pending

abbrev pub mixed : List Item
mixed =
    given 0 1
    ∷ other tick
    ∷ given 1 0
    ∷ other (receive own-packet)
    ∷ given 2 0
    ∷ other (receive broken-packet)
    ∷ given 3 1
    ∷ other (receive vxlan-packet)
    ∷ other tick
    ∷ other (receive stray_packet)
    ∷ other (receive rival_packet)
    ∷ other tick
    ∷ given 0 0
    ∷ given 4 0
    ∷ given 1 1
    ∷ given 4 1
    ∷ given 2 1
    ∷ given 3 0
    ∷ []

-- the same run with other senders' packets struck out
abbrev pub alone : List Item
alone =
    given 0 1
    ∷ other tick
    ∷ given 1 0
    ∷ other (receive own-packet)
    ∷ given 2 0
    ∷ other (receive broken-packet)
    ∷ given 3 1
    ∷ other tick
    ∷ other tick
    ∷ given 0 0
    ∷ given 4 0
    ∷ given 1 1
    ∷ given 4 1
    ∷ given 2 1
    ∷ given 3 0
    ∷ []

-- the same segments one after another
abbrev pub turn : List Item
turn = given 0 0 ∷ given 0 1 ∷ given 1 0 ∷ given 1 1 ∷ given 2 0 ∷ given 2 1 ∷ given 3 0 ∷ given 3 1 ∷ given 4 0 ∷ given 4 1 ∷ []
