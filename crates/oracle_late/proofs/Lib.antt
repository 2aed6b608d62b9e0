mod LateText
